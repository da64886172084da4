use Rattle.std.proofs.Common.{length}
use Rattle.run_audit_cli.proofs.SeenLemmas.{ReadSeen}
use Rattle.run_audit_cli.proofs.reading.read_events.Given as goal

abbrev pub invariant-lines : goal.invariant-lines
invariant-lines l = ReadSeen l.start l.bytes l.rest l.events l.number

abbrev pub decreases-lines : goal.decreases-lines
decreases-lines l = length l.rest
