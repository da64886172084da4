use Rattle.std.proofs.Common.{◌<◌}
use Rattle.run_tests_threads.proofs.threads.run_worker.Given as goal

abbrev pub invariant-loop : goal.invariant-loop
invariant-loop g l = 0 < l.work.share.parts
