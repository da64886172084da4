use Rattle.std.proofs.Common.{length}
use Rattle.run_profile.proofs.levels.+profile_from.Given as goal

abbrev pub decreases-profile_from : goal.decreases-profile_from
decreases-profile_from l = length l.names.now
