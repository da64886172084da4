use Rattle.std.proofs.Common.{length}
use Rattle.run_commands.proofs.EnvTextLemmas.{ReadSoFar}
use Rattle.run_commands.proofs.script_helpers.parse_env_text.Given as goal

abbrev pub invariant-lines : goal.invariant-lines
invariant-lines l = ReadSoFar l.bytes l.rest l.map l.number

abbrev pub decreases-lines : goal.decreases-lines
decreases-lines l = length l.rest
