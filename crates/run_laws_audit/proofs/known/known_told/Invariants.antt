use Rattle.std.proofs.Common.{take}
use Rattle.std.specs.List.{All}
use Rattle.run_laws_audit.specs.Plain.{HasPlainStatus}
use Rattle.run_laws_audit.proofs.known.known_told.Given as goal

abbrev pub invariant-loop-event : goal.invariant-loop-event
invariant-loop-event l = All HasPlainStatus (take l.event-index l.told)
