use Rattle.run_clock.proofs.CountedLemmas.{idle_mark_needs_no_call}
use Rattle.run_clock.proofs.laws.idle_marks_need_no_call.Goals as goal

pub returns : goal.returns
returns c = idle_mark_needs_no_call
