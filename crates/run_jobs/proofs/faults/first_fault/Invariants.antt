use Rattle.std.proofs.Common.{◌≡◌, [], take, drop}
use Rattle.std.specs.HashSet.{contains}
use Rattle.run_jobs.specs.Jobs.{first_fault, has_job}
use Rattle.run_jobs.proofs.faults.first_fault.Given as goal
use lib.Pointwise.{pointwise}
use Rattle.std.proofs.Common.{nat_eq}

abbrev pub invariant-loop-place : goal.invariant-loop-place
invariant-loop-place l = record {
  known : (q : _) → contains (λ x y. pointwise nat_eq x.now y.now) l.names q ≡ has_job (take l.place l.jobs) q.now;
  rest : first_fault (take l.place l.jobs) (drop l.place l.jobs) ≡ first_fault [] l.jobs;
}
