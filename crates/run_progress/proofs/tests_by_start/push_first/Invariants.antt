use Rattle.std.proofs.Common.{◌≡◌, ◌+◌, ◌-◌, ◌≤◌, ◌++◌, length, map, take, string_bytes}
use Rattle.std.specs.BTreeMap.{values}
use Rattle.run_progress.specs.Lines.{below, test_line}
use Rattle.run_progress.proofs.tests_by_start.push_first.Given as goal

abbrev pub invariant-loop-running : goal.invariant-loop-running
invariant-loop-running l = record {
  text : string_bytes l.out
      ++ below (map (test_line l.now l.width) (take (l.most - l.shown) l.running-iterator))
      ≡ string_bytes l.initial.out ++ below (map (test_line l.now l.width) (take l.most (values l.tests)));
  lines : l.shown + length (take (l.most - l.shown) l.running-iterator) ≡ length (take l.most (values l.tests));
  within : l.shown ≤ l.most;
}
