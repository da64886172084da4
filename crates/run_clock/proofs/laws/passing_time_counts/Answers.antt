use Rattle.run_clock.proofs.CountedLemmas.{passing_time_counts}
use Rattle.run_clock.proofs.laws.passing_time_counts.Goals as goal

pub returns : goal.returns
returns c = passing_time_counts
