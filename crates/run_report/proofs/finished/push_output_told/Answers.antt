use Rattle.std.proofs.Common.{◌∙◌, sym}
use Rattle.run_report.proofs.PieceLemmas.{none_if}
use Rattle.run_report.proofs.finished.push_output_told.Goals as goal

pub returns-else-is_output_told : goal.returns-else-is_output_told
returns-else-is_output_told c =
    none_if c.args.settings.now _ _ c.args.shown.now
    (sym c.is_output_told.ensures ∙ c.if-is_output_told.false)
