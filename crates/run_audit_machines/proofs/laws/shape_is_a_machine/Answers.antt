use Rattle.run_audit_machines.proofs.LawLemmas.{shape_is_machine}
use Rattle.run_audit_machines.proofs.laws.shape_is_a_machine.Goals as goal

pub returns : goal.returns
returns c = shape_is_machine
