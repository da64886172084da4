use Rattle.run_clock.proofs.CountedLemmas.{idle_mark_counts_nothing}
use Rattle.run_clock.proofs.laws.idle_marks_count_nothing.Goals as goal

pub returns : goal.returns
returns c = idle_mark_counts_nothing
