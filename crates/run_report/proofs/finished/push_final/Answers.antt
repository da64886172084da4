use Rattle.std.proofs.Common.{◌∙◌, sym}
use Rattle.run_report.proofs.PieceLemmas.{none_if}
use Rattle.run_report.proofs.finished.push_final.Goals as goal

pub returns-else-is_line_told : goal.returns-else-is_line_told
returns-else-is_line_told c =
    none_if c.args.settings.now _ _ c.args.shown.now
    (sym c.is_line_told.ensures ∙ c.if-is_line_told.false)
