use Rattle.run_report.proofs.PieceLemmas.{none_if, not_below}
use Rattle.run_report.proofs.units.push_delay.Goals as goal

pub returns-else-failed-gt0 : goal.returns-else-failed-gt0
returns-else-failed-gt0 c =
    none_if c.args.settings.now _ _ c.args.shown.now
    (not_below _ _ c.if-failed-gt0.false)
