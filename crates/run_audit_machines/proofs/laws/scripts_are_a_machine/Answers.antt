use Rattle.run_audit_machines.proofs.LawLemmas.{scripts_are_machine}
use Rattle.run_audit_machines.proofs.laws.scripts_are_a_machine.Goals as goal

pub returns : goal.returns
returns g c = scripts_are_machine g.row.Due.Denot
