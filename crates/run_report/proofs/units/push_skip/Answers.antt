use Rattle.std.proofs.Common.{◌∙◌, sym}
use Rattle.run_report.proofs.PieceLemmas.{none_if}
use Rattle.run_report.proofs.units.push_skip.Goals as goal

pub returns-else-shows : goal.returns-else-shows
returns-else-shows c =
    none_if c.args.settings.now _ _ c.args.shown.now
    (sym c.shows.ensures ∙ c.if-shows.false)
