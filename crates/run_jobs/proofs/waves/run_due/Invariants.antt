use Rattle.std.proofs.Common.{◌≡◌, length}
use Rattle.run_engine.specs.World.{outside}
use Rattle.run_jobs.proofs.WaveLemmas.{AreAt}
use Rattle.run_jobs.proofs.waves.run_due.Given as goal

abbrev pub invariant-loop-wave : goal.invariant-loop-wave
invariant-loop-wave g l = record {
  at : AreAt g.R.Reporter.told g.C.Children.asked
      (outside g.R.Reporter.faults l.initial.report l.report l.initial.children l.children) l.jobs l.turns l.states
      l.wave;
  same : length l.states ≡ length l.jobs.jobs;
}
