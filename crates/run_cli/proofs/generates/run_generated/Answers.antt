use Rattle.run_cli.specs.Call.{writing_of}
use Rattle.run_cli.proofs.GenerateLemmas.{memory_ends}
use Rattle.run_cli.proofs.generates.run_generated.Goals as goal

pub returns-in-Err-OutOfMemory : goal.returns-in-Err-OutOfMemory
returns-in-Err-OutOfMemory g c =
    memory_ends c.args.tests (writing_of g.K.Sink c.args.sink c.end_at_fault.result.sink) c.end_at_fault.result.ending
    c.end_at_fault.ensures
