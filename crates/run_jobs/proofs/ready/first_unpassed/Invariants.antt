use Rattle.std.proofs.Common.{◌≡◌, drop}
use Rattle.run_jobs.specs.States.{first_unpassed}
use Rattle.run_jobs.proofs.ready.first_unpassed.Given as goal

abbrev pub invariant-loop-job : goal.invariant-loop-job
invariant-loop-job l = first_unpassed l.states (drop l.job-index l.after) ≡ first_unpassed l.states l.after
