use Rattle.std.proofs.Common.{◌≡◌, ◌≤◌, drop, length, max}
use Rattle.run_jobs.specs.Levels.{level_after}
use Rattle.run_jobs.proofs.levels.level_after.Given as goal

abbrev pub invariant-loop-a : goal.invariant-loop-a
invariant-loop-a l = record {
  level : max l.level (level_after l.levels (drop l.a-index l.after)) ≡ level_after l.levels l.after;
  small : l.level ≤ length l.levels;
}
