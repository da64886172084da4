use Rattle.std.proofs.Common.{◌∙◌, sym}
use Rattle.run_store_io.proofs.PayloadLemmas.{plan_said}
use Rattle.run_store_io.proofs.payloads.is_plan_payload.Goals as goal

pub returns : goal.returns
returns c =
    plan_said c.args.payload.now c.is_plan_line.result (sym c.contains.ensures.value ∙ c.if-contains.false)
    c.if-payload-gt-MOST_BYTES.false c.is_plan_line.ensures
