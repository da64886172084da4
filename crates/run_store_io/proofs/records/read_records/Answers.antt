use Rattle.std.proofs.Common.{Ok}
use Rattle.run_store_io.specs.Steps.{IsStep}
use Rattle.run_store_io.specs.declared.records.Step.TheVariants as steps
use Rattle.run_store_io.proofs.StepLemmas.{one_more}
use Rattle.run_store_io.proofs.records.read_records.Goals as goal

pub records-preserved : goal.records-preserved
records-preserved c =
    let n = c.len.result in
    let step : IsStep n c.records.rest.now (Ok (steps.Turn c.in-Ok-Turn.turn c.in-Ok-Turn.after)) =
    rw c.in-Ok-Turn.field-0-is at c.in-Ok-Turn.ensures in
    rw c.in_ok-push-in-Ok-Turn.ensures.ok
    (one_more c.args.records.now c.records.rest.now c.in-Ok-Turn.after.now c.records.turns c.in-Ok-Turn.turn n
    c.records.invariant c.len.ensures step)
