use Rattle.run_audit_machines.proofs.LawLemmas.{accounts_are_machine}
use Rattle.run_audit_machines.proofs.laws.accounts_are_a_machine.Goals as goal

pub returns : goal.returns
returns g c = accounts_are_machine g.row.Due.Denot
