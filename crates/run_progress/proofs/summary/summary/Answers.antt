use Rattle.run_progress.proofs.SummaryLemmas.{parts_joined}
use Rattle.run_progress.proofs.summary.summary.Goals as goal

pub returns : goal.returns
returns c =
    rw parts_joined
    (cc (
      c.in_ok-parts.ensures,
      c.in_ok-push_failed.ensures,
      c.in_ok-push_part.ensures,
      c.in_ok-push_part-2.ensures,
      c.in_ok-push_skipped.ensures,
    ))
