use Rattle.std.proofs.Common.{◌∙◌, Bool, List, ap, arith, map}
use Rattle.std.specs.List.{zip}
use Rattle.run_plan.specs.Planned.{scripted_test}
use Rattle.run_plan.specs.Rows.{asked_row}
use Rattle.run_plan.proofs.RowLemmas.{all_pairs, next_test}
use Rattle.run_plan.proofs.planned.plan_tests.Goals as goal

pub loop-place-preserved : goal.loop-place-preserved
loop-place-preserved c =
    let used = map (λ s. s.now) c.args.scripts.now in
    next_test (scripted_test c.args.counts.0 c.args.counts.1 c.args.profile.now c.args.picks.now used)
    c.loop-place.tests c.push.new.self c.in_ok-test.test c.args.rows.now c.in_ok-kept.kept.items c.loop-place.place
    c.index-rows-place.result c.index.result.now c.in_ok-push.ensures.ok c.in_ok-test.ensures (omega arith)
    (omega arith) c.index-rows-place.is c.index.ensures c.loop-place.invariant

pub returns : goal.returns
returns c =
    let used = map (λ s. s.now) c.args.scripts.now in
    let test = scripted_test c.args.counts.0 c.args.counts.1 c.args.profile.now c.args.picks.now used in
    let rows = map asked_row c.args.rows.now in
    c.loop-place.invariant
    ∙ ap (map test) (all_pairs asked_row c.args.rows.now c.in_ok-kept.kept.items c.loop-place.place (omega arith))
    ∙ ap (λ (kept : List Bool). map test (zip rows kept)) c.in_ok-kept.ensures
