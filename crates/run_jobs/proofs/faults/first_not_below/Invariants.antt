use Rattle.std.proofs.Common.{◌≡◌, drop}
use Rattle.run_jobs.specs.Jobs.{first_not_below}
use Rattle.run_jobs.proofs.faults.first_not_below.Given as goal

abbrev pub invariant-loop-a : goal.invariant-loop-a
invariant-loop-a l = first_not_below l.number (drop l.a-index l.after) ≡ first_not_below l.number l.after
