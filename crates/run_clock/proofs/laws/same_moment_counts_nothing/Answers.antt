use Rattle.run_clock.proofs.CountedLemmas.{same_moment_counts_nothing}
use Rattle.run_clock.proofs.laws.same_moment_counts_nothing.Goals as goal

pub returns : goal.returns
returns c = same_moment_counts_nothing
