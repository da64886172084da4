use Rattle.std.proofs.Common.{◌∙◌, ap, not, sym}
use Rattle.run_report.proofs.PieceLemmas.{none_if}
use Rattle.run_report.proofs.scripts.push_script_output.Goals as goal

pub returns-then-is_success : goal.returns-then-is_success
returns-then-is_success c =
    none_if c.args.settings.now _ _ c.args.shown.now
    (ap not (sym c.is_success.ensures ∙ c.if-is_success.true))
