use Rattle.std.proofs.Common.{length}
use Rattle.run_tests_base.proofs.clock.+watch_after.Given as goal

abbrev pub decreases-watch_after : goal.decreases-watch_after
decreases-watch_after l = length l.calls.now
