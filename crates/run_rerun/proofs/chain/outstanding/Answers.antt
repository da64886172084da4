use Rattle.std.proofs.Common.{◌∙◌, [], ◌∷◌, ◌++◌, cond, map, not, take, ap, sym}
use Rattle.std.proofs.lemmas.List.{map_more}
use Rattle.run_rerun.specs.declared.answers.StoredRun.{StoredRun}
use Rattle.run_rerun.specs.Outstanding.{has_id, is_outstanding}
use Rattle.run_rerun.proofs.OutstandingLemmas.{outstanding_more}
use Rattle.run_rerun.proofs.chain.outstanding.Goals as goal

pub loop-run-preserved : goal.loop-run-preserved
loop-run-preserved c = λ id.
    let chain = c.args.chain.now in
    let run = c.run-item.result in
    let before = map (λ (run : StoredRun). run.tests) (take c.loop-run.run-index chain) in
    c.in_ok-take_run.ensures id
    ∙ ap (λ b. cond (has_id run.tests.has id) (not (has_id run.tests.passed id)) b) (c.loop-run.invariant id)
    ∙ sym (outstanding_more before run.tests id)
    ∙ ap (λ (r : StoredRun). is_outstanding (before ++ r.tests ∷ []) id) c.run-item.is
    ∙ ap (λ tests. is_outstanding tests id)
    (sym (map_more (λ (run : StoredRun). run.tests) chain c.loop-run.run-index run c.loop-run-test.true))
