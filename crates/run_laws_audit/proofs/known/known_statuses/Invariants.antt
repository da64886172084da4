use Rattle.std.proofs.Common.{take}
use Rattle.std.specs.List.{All}
use Rattle.run_output.specs.Statuses.{status_data}
use Rattle.run_text_laws.specs.Plain.{IsPlain}
use Rattle.run_laws_audit.proofs.known.known_statuses.Given as goal

abbrev pub invariant-loop-status : goal.invariant-loop-status
invariant-loop-status l = All (λ status. IsPlain (status_data status)) (take l.status-index l.statuses)
