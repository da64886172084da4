use Rattle.std.proofs.Common.{ℕ, ◌≡◌, ◌≤◌, List, length}
use Rattle.run_jobs.specs.Levels.{AreOrdered, at_level, levels_of}
use Rattle.run_jobs.specs.Settled.{GivesResults}
use Rattle.run_jobs.specs.States.{Wave}
use Rattle.run_jobs.proofs.SettleLemmas.{AreSet}
use Rattle.run_jobs.proofs.settle.settle.Given as goal

abbrev pub invariant-loop-number : goal.invariant-loop-number
invariant-loop-number l = record {
  sets : (w : ℕ) (waves : List Wave) → AreOrdered l.jobs → l.level ≡ at_level w 0 (levels_of l.jobs)
      → GivesResults l.results waves w → AreSet l.jobs waves w l.initial.states l.states l.number-index l.unit;
  few : l.unit ≤ l.number-index;
  same : length l.states ≡ length l.jobs;
}
