use Rattle.std.proofs.Common.{◌≡◌, ◌<◌}
use Rattle.run_tests_threads.proofs.threads.settle_all.Given as goal

abbrev pub invariant-loop : goal.invariant-loop
invariant-loop g l = (l.work.share.parts ≡ l.initial.work.share.parts) × (0 < l.work.share.parts)
