use Rattle.serde_json.specs.View.{view}
use Rattle.run_rerun.proofs.LineLemmas.{line_made, text_made}
use Rattle.run_rerun.proofs.plan_made.rerun_plan.Goals as goal

pub returns-clause-text : goal.returns-clause-text
returns-clause-text c =
    let a = c.in-Ok in
    text_made c.args.line.now c.in_ok-text.text c.args.ids.now (view a.value) (view c.in_ok-value.value) a.ensures.ok.0
    a.ensures.ok.1 c.requires c.in_ok-value.ensures c.in_ok-text.ensures.text

pub returns-clause-plan : goal.returns-clause-plan
returns-clause-plan c =
    let a = c.in-Ok in
    line_made c.args.line.now c.in_ok-text.text c.args.ids.now (view a.value) (view c.in_ok-value.value) a.ensures.ok.0
    a.ensures.ok.1 a.ensures.nests c.requires c.in_ok-value.ensures c.in_ok-text.ensures.utf8
    c.in_ok-text.ensures.reads_back
