use Rattle.std.proofs.Common.{◌∙◌, ap, sym}
use Rattle.run_report.specs.declared.levels.StatusLevel.{StatusLevel}
use Rattle.run_report.specs.Levels.{shows}
use Rattle.run_report.proofs.PieceLemmas.{none_if}
use Rattle.run_report.proofs.units.push_slow.Goals as goal

pub returns-else-shows : goal.returns-else-shows
returns-else-shows c =
    none_if c.args.settings.now _ _ c.args.shown.now
    (ap (λ (level : StatusLevel). shows c.args.settings.now.status level) (sym c.slow_level.ensures)
    ∙ sym c.shows.ensures ∙ c.if-shows.false)
