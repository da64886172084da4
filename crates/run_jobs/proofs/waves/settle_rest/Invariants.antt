use Rattle.std.proofs.Common.{◌≡◌, List, length}
use Rattle.run_jobs.specs.Settled.{AreKnown}
use Rattle.run_jobs.specs.States.{Wave}
use Rattle.run_jobs.proofs.waves.settle_rest.Given as goal

abbrev pub invariant-loop-level : goal.invariant-loop-level
invariant-loop-level l = record {
  known : (waves : List Wave) → length waves ≡ l.fn.from → AreKnown l.jobs.jobs waves l.initial.states l.fn.from
      → AreKnown l.jobs.jobs waves l.states l.level;
  same : length l.states ≡ length l.jobs.jobs;
}
