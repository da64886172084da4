use Rattle.run_report.proofs.PieceLemmas.{none_if, not_below}
use Rattle.run_report.proofs.info.push_missing.Goals as goal

pub returns-else-missing-gt0 : goal.returns-else-missing-gt0
returns-else-missing-gt0 c =
    none_if c.args.settings.now _ _ c.args.shown.now
    (not_below _ _ c.if-missing-gt0.false)
