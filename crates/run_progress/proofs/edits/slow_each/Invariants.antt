use Rattle.std.proofs.Common.{◌≡◌, ◌++◌, map, take, drop}
use Rattle.run_progress.specs.Edits.{slowed}
use Rattle.run_progress.proofs.edits.slow_each.Given as goal

abbrev pub invariant-loop-running : goal.invariant-loop-running
invariant-loop-running l =
    l.tests ≡ map (slowed l.id) (take l.running-index l.initial.tests) ++ drop l.running-index l.initial.tests
