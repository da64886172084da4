use Rattle.std.proofs.Common.{length}
use Rattle.run_input.proofs.InputLemmas.{ReadSoFar}
use Rattle.run_audit_cli.proofs.reading.read_turns.Given as goal

abbrev pub invariant-lines : goal.invariant-lines
invariant-lines l = ReadSoFar l.bytes l.rest l.turns l.number

abbrev pub decreases-lines : goal.decreases-lines
decreases-lines l = length l.rest
