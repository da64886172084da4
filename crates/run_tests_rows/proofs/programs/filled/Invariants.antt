use Rattle.std.proofs.Common.{◌-◌, length}
use Rattle.run_tests_rows.proofs.programs.filled.Given as goal

abbrev pub decreases-zeros : goal.decreases-zeros
decreases-zeros l = l.count - length l.input
