use Rattle.std.proofs.Common.{◌≡◌, ◌++◌, map, take, string_bytes}
use Rattle.run_progress.specs.Lines.{below, test_line}
use Rattle.run_progress.proofs.lines.push_lines.Given as goal

abbrev pub invariant-loop-running : goal.invariant-loop-running
invariant-loop-running l =
    string_bytes l.out
    ≡ string_bytes l.initial.out ++ below (map (test_line l.now l.width) (take l.running-index l.tests))
