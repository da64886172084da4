use Rattle.std.proofs.Common.{◌≡◌, ◌<◌, ◌||◌, take, length, true, false, not, Some, None, slice_get, refl, sym, ◌∙◌, ap}
use Rattle.std.proofs.Common.{arith, below_more, is_some, option_and_then}
use Rattle.std.specs.List.{list_any}
use Rattle.std.proofs.lemmas.Option.{slice_get-get_or}
use Rattle.std.proofs.lemmas.List.Folds.{list_any_more}
use Rattle.run_laws.proofs.board.Scan.{found_first, found_none}
use Rattle.run_engine.specs.Builder.{test_refusal, first_refused}
use Rattle.run_model.specs.Reruns.{is_one_test}
use Rattle.run_events.specs.declared.plan.PlanTest.{PlanTest}
use Rattle.run_engine.proofs.RepeatLemmas.{one_more, found, refusal_here}
use Rattle.run_engine.proofs.builder.tests_refusal.Goals as goal

pub returns-then-is_some : goal.returns-then-is_some
returns-then-is_some c =
    let groups = c.args.groups.now in
    let retries = c.args.retries in
    let tests = c.args.tests.now in
    let place = c.loop-place.place in
    let test = c.index-tests-place.result in
    let inside : place < length tests = omega arith in
    let at : slice_get tests place ≡ Some test =
    slice_get-get_or tests place test inside ∙ ap Some (sym c.index-tests-place.is) in
    let among : list_any (λ (t : PlanTest). is_one_test t.id test.id) (take place tests) ≡ not c.in_ok-fresh.fresh =
    sym (c.loop-place.invariant.known (record { ref_ptr = (0, 0); now = test.id }))
    ∙ sym (found _ _ c.in_ok-fresh.ensures.added) in
    let here : test_refusal groups retries tests place ≡ c.refusal_at-refusal.result =
    refusal_here groups retries tests place test (not c.in_ok-fresh.fresh) at among ∙ sym
    (c.refusal_at-refusal.ensures groups c.in_ok-names.ensures) in
    let some : is_some (test_refusal groups retries tests place) ≡ true =
    ap is_some here ∙ sym c.is_some.ensures ∙ c.if-is_some.true in
    let first : first_refused groups retries tests ≡ Some place =
    found_first (λ k. is_some (test_refusal groups retries tests k)) (length tests) place inside
    c.loop-place.invariant.first
    some in
    sym (ap (option_and_then (test_refusal groups retries tests)) first ∙ here)

pub loop-place-preserved : goal.loop-place-preserved
loop-place-preserved c =
    let groups = c.args.groups.now in
    let retries = c.args.retries in
    let tests = c.args.tests.now in
    let place = c.loop-place.place in
    let test = c.index-tests-place.result in
    let inside : place < length tests = omega arith in
    let at : slice_get tests place ≡ Some test =
    slice_get-get_or tests place test inside ∙ ap Some (sym c.index-tests-place.is) in
    let among : list_any (λ (t : PlanTest). is_one_test t.id test.id) (take place tests) ≡ not c.in_ok-fresh.fresh =
    sym (c.loop-place.invariant.known (record { ref_ptr = (0, 0); now = test.id }))
    ∙ sym (found _ _ c.in_ok-fresh.ensures.added) in
    let here : test_refusal groups retries tests place ≡ c.refusal_at-refusal.result =
    refusal_here groups retries tests place test (not c.in_ok-fresh.fresh) at among ∙ sym
    (c.refusal_at-refusal.ensures groups c.in_ok-names.ensures) in
    let none : is_some (test_refusal groups retries tests place) ≡ false =
    ap is_some here ∙ sym c.is_some.ensures ∙ c.if-is_some.false in
    record {
      known = λ q.
          c.in_ok-fresh.ensures.updates.0 q
          ∙ one_more _ _ (list_any (λ (t : PlanTest). is_one_test t.id q.now) (take place tests)) (is_one_test
          test.id q.now)
          refl (c.loop-place.invariant.known q)
          ∙ ap
          (λ (t : PlanTest). list_any (λ (t : PlanTest). is_one_test t.id q.now) (take place tests) || is_one_test
          t.id q.now)
          c.index-tests-place.is
          ∙ sym (list_any_more (λ (t : PlanTest). is_one_test t.id q.now) tests place test inside);
      first = below_more _ _ c.loop-place.invariant.first none;
    }

pub returns : goal.returns
returns c =
    let groups = c.args.groups.now in
    let retries = c.args.retries in
    let tests = c.args.tests.now in
    let none : first_refused groups retries tests ≡ None =
    found_none (λ k. is_some (test_refusal groups retries tests k)) (length tests)
    (λ k h. c.loop-place.invariant.first k (omega arith)) in
    sym (ap (option_and_then (test_refusal groups retries tests)) none)
