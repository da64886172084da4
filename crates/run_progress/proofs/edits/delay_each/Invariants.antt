use Rattle.std.proofs.Common.{◌≡◌, ◌++◌, map, take, drop}
use Rattle.run_progress.specs.Edits.{paused_more}
use Rattle.run_progress.proofs.edits.delay_each.Given as goal

abbrev pub invariant-loop-running : goal.invariant-loop-running
invariant-loop-running l =
    l.tests ≡ map (paused_more l.pause) (take l.running-index l.initial.tests) ++ drop l.running-index l.initial.tests
