use Rattle.std.proofs.Common.{◌≡◌, ℕ, ◌<◌, get_or}
use Rattle.run_rerun.specs.declared.answers.StoredRun.{StoredRun}
use Rattle.run_rerun.specs.Shards.{whole_tests}
use Rattle.run_rerun.proofs.shards.first_other.Given as goal

abbrev pub invariant-loop-place : goal.invariant-loop-place
invariant-loop-place l =
    (k : ℕ) (d : StoredRun) → k < l.place → whole_tests (get_or l.shards k d).line ≡ l.tests
