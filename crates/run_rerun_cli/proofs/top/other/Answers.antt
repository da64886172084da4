use Rattle.run_output.specs.declared.fault.Fault.TheVariants.{Words}
use Rattle.run_output.specs.Faults.{fault_text}
use Rattle.run_rerun_cli.proofs.top.other.Goals as goal

pub returns : goal.returns
returns g c = c.end_with.ensures (fault_text Words) c.fault_line-line.ensures
