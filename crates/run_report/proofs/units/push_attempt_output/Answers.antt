use Rattle.std.proofs.Common.{◌∙◌, sym}
use Rattle.run_report.proofs.PieceLemmas.{none_if}
use Rattle.run_report.proofs.units.push_attempt_output.Goals as goal

pub returns-else-is_at_once : goal.returns-else-is_at_once
returns-else-is_at_once c =
    none_if c.args.settings.now _ _ c.args.shown.now
    (sym c.is_at_once.ensures ∙ c.if-is_at_once.false)
