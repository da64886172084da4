use Rattle.std.proofs.Common.{◌∙◌, sym}
use Rattle.run_report.specs.Units.{attempt_pieces}
use Rattle.run_report.proofs.PieceLemmas.{none_if}
use Rattle.run_report.proofs.units.push_failed.Goals as goal

pub returns-else-shows : goal.returns-else-shows
unfolding attempt_pieces
returns-else-shows c =
    none_if c.args.settings.now _ _ c.args.shown.now
    (sym c.shows.ensures ∙ c.if-shows.false)
