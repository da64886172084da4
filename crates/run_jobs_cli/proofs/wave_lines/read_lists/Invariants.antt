use Rattle.std.proofs.Common.{length}
use Rattle.run_jobs_cli.proofs.ListLemmas.{ReadLists}
use Rattle.run_jobs_cli.proofs.wave_lines.read_lists.Given as goal

abbrev pub invariant-lines : goal.invariant-lines
invariant-lines l = ReadLists l.bytes l.rest l.lists l.number

abbrev pub decreases-lines : goal.decreases-lines
decreases-lines l = length l.rest
