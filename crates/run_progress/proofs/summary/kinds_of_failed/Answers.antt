use Rattle.std.proofs.Common.{◌∙◌}
use Rattle.run_progress.proofs.SummaryLemmas.{failed_kinds-some}
use Rattle.run_progress.proofs.summary.kinds_of_failed.Goals as goal

pub returns-in_ok-format : goal.returns-in_ok-format
returns-in_ok-format c = c.in_ok-format.ensures.ok ∙ failed_kinds-some c.args.stats.now c.if-leaky-gt0.true
