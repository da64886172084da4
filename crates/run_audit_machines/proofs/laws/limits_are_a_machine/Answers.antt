use Rattle.run_audit_machines.proofs.LawLemmas.{limits_are_machine}
use Rattle.run_audit_machines.proofs.laws.limits_are_a_machine.Goals as goal

pub returns : goal.returns
returns c = limits_are_machine
