use Rattle.std.proofs.Common.{ap, ◌∙◌, ◌++◌}
use Rattle.run_report.specs.Texts.{dash}
use Rattle.run_report.proofs.TextLemmas.{dashes_more}
use Rattle.run_report.proofs.texts.push_dashes.Goals as goal

pub loop-dash-preserved : goal.loop-dash-preserved
loop-dash-preserved c =
    c.in_ok-push_str.ensures.bytes ∙ ap (λ bytes. bytes ++ dash) c.loop-dash.invariant ∙ dashes_more _ _
