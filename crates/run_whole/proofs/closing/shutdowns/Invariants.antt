use Rattle.std.proofs.Common.{◌≡◌, ◌≤◌, take, count_by}
use Rattle.run_whole.specs.Whole.{takes_shutdown}
use Rattle.run_whole.proofs.closing.shutdowns.Given as goal

abbrev pub invariant-loop-entry : goal.invariant-loop-entry
invariant-loop-entry l = (l.count ≡ count_by takes_shutdown (take l.entry-index l.journal)) × (l.count ≤ l.entry-index)
