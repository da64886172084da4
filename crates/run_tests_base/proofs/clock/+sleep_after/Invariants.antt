use Rattle.std.proofs.Common.{length}
use Rattle.run_tests_base.proofs.clock.+sleep_after.Given as goal

abbrev pub decreases-sleep_after : goal.decreases-sleep_after
decreases-sleep_after l = length l.calls.now
