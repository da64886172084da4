use Rattle.std.proofs.Common.{◌∙◌}
use Rattle.run_store_io.proofs.StepLemmas.{same_of, none_of}
use Rattle.run_store_io.proofs.records.end_step.Goals as goal

pub returns-then-is_empty : goal.returns-then-is_empty
returns-then-is_empty c = (
  same_of c.args.payload.now c.as_slice.result.now c.ne.result c.ne.ensures c.if-ne.false ∙ c.as_slice.ensures
      ∙ c.to_be_bytes-count.ensures,
  none_of c.args.after.now c.is_empty.result c.is_empty.ensures c.if-is_empty.true,
)
