use Rattle.std.proofs.Common.{◌∙◌, sym}
use Rattle.run_report.proofs.PieceLemmas.{none_if}
use Rattle.run_report.proofs.finished.push_output_kept.Goals as goal

pub returns-else-is_output_kept : goal.returns-else-is_output_kept
returns-else-is_output_kept c =
    none_if c.args.settings.now _ _ c.args.shown.now
    (sym c.is_output_kept.ensures ∙ c.if-is_output_kept.false)
