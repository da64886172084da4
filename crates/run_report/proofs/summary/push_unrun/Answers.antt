use Rattle.run_report.proofs.PieceLemmas.{none_if, not_below}
use Rattle.run_report.proofs.summary.push_unrun.Goals as goal

pub returns-else-stats : goal.returns-else-stats
returns-else-stats c =
    none_if c.args.settings.now _ _ c.args.shown.now
    (not_below _ _ c.if-stats.false)
