use Rattle.run_store_io.proofs.StoreLemmas.{begun_part}
use Rattle.run_record.proofs.filling.begin_with.Goals as goal

pub returns-in-Err : goal.returns-in-Err
returns-in-Err g c = λ over turns. (
  begun_part _ _ c.args.line.now turns c.in-Err.ensures.err.1,
  c.in-Err.ensures.fault.1,
)
