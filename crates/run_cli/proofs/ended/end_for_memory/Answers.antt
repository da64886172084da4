use Rattle.run_output.specs.declared.fault.Fault.TheVariants.{Memory}
use Rattle.run_cli.specs.Text.{fault_only}
use Rattle.run_cli.proofs.ShortLemmas.{memory_line, takes_some}
use Rattle.run_cli.proofs.ended.end_for_memory.Goals as goal

pub returns-clause-said : goal.returns-clause-said
returns-clause-said g c =
    takes_some c.write_all.result _ _ _ (fault_only Memory) memory_line c.write_all.ensures.ok c.write_all.ensures.err
