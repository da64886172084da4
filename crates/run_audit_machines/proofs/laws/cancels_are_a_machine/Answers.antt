use Rattle.run_audit_machines.proofs.LawLemmas.{cancels_are_machine}
use Rattle.run_audit_machines.proofs.laws.cancels_are_a_machine.Goals as goal

pub returns : goal.returns
returns c = cancels_are_machine
