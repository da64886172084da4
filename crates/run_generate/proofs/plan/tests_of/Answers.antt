-- One more test.
use Rattle.std.proofs.Common.{map, ◌∷◌, [], ◌++◌, ◌∙◌, ap, sym, arith}
use Rattle.std.proofs.lemmas.List.FromFn.{map-range_with_len_more}
use Rattle.std.specs.List.{range_with_len}
use Rattle.run_generate.specs.Plan.{test_at}
use Rattle.run_generate.proofs.plan.tests_of.Goals as goal

pub loop-test-preserved : goal.loop-test-preserved
loop-test-preserved c =
    let i = c.loop-test.test in
    c.in_ok-push.ensures.ok ∙ ap (λ ts. ts ++ c.in_ok-test_at.field-0 ∷ []) c.loop-test.invariant
    ∙ ap (λ t. map test_at (range_with_len 0 i) ++ t ∷ []) c.in_ok-test_at.ensures
    ∙ sym (map-range_with_len_more test_at 0 i i (omega arith))
