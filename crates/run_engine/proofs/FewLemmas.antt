-- The attempts of each test of a plan that isn't refused fit in a u32.
use Rattle.std.proofs.Common.{◌≡◌, ℕ, ◌+◌, ◌-◌, ◌<◌, ◌≤◌, ◌^◌, ◌==◌, List, length, get_or, Bool, true, false, Option}
use Rattle.std.proofs.Common.{Some, None}
use Rattle.std.proofs.Common.{if◌then◌else◌, cond, is_some, nat_lt, nat_le, position, slice_get, option_and_then}
use Rattle.std.proofs.Common.{option_map}
use Rattle.std.proofs.Common.{refl, ap, sym, ◌∙◌, arith, zero-add}
use Rattle.std.specs.List.{range_with_len, position_or_len}
use Rattle.std.specs.Option.{option_or}
use Rattle.std.proofs.lemmas.List.FromFn.{get_or-range_with_len, length-range_with_len}
use Rattle.std.proofs.lemmas.List.Quantifiers.{position-Some}
use Rattle.std.proofs.lemmas.List.Sums.{fails_before_first}
use Rattle.std.proofs.lemmas.Option.{slice_get_within}
use Rattle.run_events.specs.declared.plan.Group.{Group}
use Rattle.run_events.specs.declared.plan.PlanTest.{PlanTest}
use Rattle.run_events.specs.declared.retry_policy.RetryPolicy.{RetryPolicy}
use Rattle.run_model.specs.Admission.{AreFew, units_in, terms_if}
use Rattle.run_model.specs.Backoff.{retry_count}
use Rattle.run_engine.specs.declared.errors.TestRunnerBuildError.{TestRunnerBuildError}
use Rattle.run_events.specs.declared.settings.Settings.{Settings}
use Rattle.run_engine.specs.declared.errors.TestRunnerBuildError.TheVariants.{ZeroLimit}
use Rattle.run_engine.specs.Builder.{refusal_with, refusal_at, test_refusal, first_refused, zero_limit}
use Rattle.run_engine.specs.Builder.{has_too_many, names_no_group, is_repeat}

-- where no number below n passes, none does
none_passes : (p : ℕ → Bool) (n k : ℕ) → position p (range_with_len 0 n) ≡ None → k < n → p k ≡ false
none_passes p n k none below = by_place (nat_lt place (length numbers)) refl none
  where
    numbers : List ℕ
    numbers = range_with_len 0 n

    place : ℕ
    place = position_or_len p numbers

    at : get_or numbers k 0 ≡ k
    at = get_or-range_with_len 0 n k 0 below ∙ zero-add k

    by_place : (b : Bool) → nat_lt place (length numbers) ≡ b → cond b (Some place) None ≡ None → p k ≡ false
    by_place true e h = cc
    by_place false e h =
        let past : length numbers ≤ place = grind (arith, e) in
        sym (ap p at) ∙ fails_before_first p numbers k 0 (omega (arith, length-range_with_len 0 n))

-- where the first that is refused gives no reason, none is refused
none_refused : (groups : List Group) (retries : Option RetryPolicy) (tests : List PlanTest) (first : Option ℕ)
    → first_refused groups retries tests ≡ first
    → option_and_then (test_refusal groups retries tests) first ≡ None → first ≡ None
none_refused groups retries tests None e h = refl
none_refused groups retries tests (Some k) e h =
    let it = position-Some (λ k. is_some (test_refusal groups retries tests k)) (range_with_len 0 (length tests)) k 0
    e in
    let below : k < length tests = omega (arith, it.0, length-range_with_len 0 (length tests)) in
    let at : get_or (range_with_len 0 (length tests)) k 0 ≡ k =
    get_or-range_with_len 0 (length tests) k 0 below ∙ zero-add k in
    let some : is_some (test_refusal groups retries tests k) ≡ true =
    sym (ap (λ k. is_some (test_refusal groups retries tests k)) at) ∙ it.1 in
    let never : false ≡ true = sym (ap is_some h) ∙ some in cc

no_second : {X : Type 0} (a b : Option X) → option_or a b ≡ None → b ≡ None
no_second None b e = e
no_second (Some x) b e = cc

-- a test that isn't refused has not too many retries
not_too_many : (k : ℕ) (repeats : Bool) (groups : List Group) (retries : Option RetryPolicy) (test : PlanTest)
    → is_some (refusal_at k repeats groups retries test) ≡ false → has_too_many retries test ≡ false
not_too_many k repeats groups retries test =
    by_rule _ _ _ _ repeats (names_no_group groups test) (test.weight == 0) (has_too_many retries test)
  where
    by_rule : (a b c d : TestRunnerBuildError) (r g w m : Bool)
        → is_some (if r then Some a else (if g then Some b else (if w then Some c else (if m then Some d else
        None)))) ≡ false
        → m ≡ false
    by_rule a b c d true g w m e = cc
    by_rule a b c d false true w m e = cc
    by_rule a b c d false false true m e = cc
    by_rule a b c d false false false true e = cc
    by_rule a b c d false false false false e = refl

fits : (n : ℕ) → nat_le (2 ^ 32 - 1) n ≡ false → n + 1 < 2 ^ 32
fits n e = grind (arith, e)

-- of a plan that isn't refused no test is
pub unrefused : (p : Settings) (threads : ℕ)
    → refusal_with threads p.plan.groups p.retries p.plan.tests ≡ None
    → (j : ℕ) (test : PlanTest) → slice_get p.plan.tests j ≡ Some test
    → is_some (refusal_at j (is_repeat p.plan.tests j) p.plan.groups p.retries test) ≡ false
unrefused p threads accepted j test e =
    sym (ap (λ o. is_some (option_and_then (refusal_at j (is_repeat p.plan.tests j) p.plan.groups p.retries) o)) e)
    ∙ none_passes (λ k. is_some (test_refusal p.plan.groups p.retries p.plan.tests k)) (length p.plan.tests) j
    first_none
    (slice_get_within p.plan.tests j test e)
  where
    first_none : first_refused p.plan.groups p.retries p.plan.tests ≡ None
    first_none =
        none_refused p.plan.groups p.retries p.plan.tests (first_refused p.plan.groups p.retries p.plan.tests) refl
        (no_second (option_map ZeroLimit (zero_limit threads p.plan.groups))
        (option_and_then (test_refusal p.plan.groups p.retries p.plan.tests)
        (first_refused p.plan.groups p.retries p.plan.tests)) accepted)

pub few_attempts : (p : Settings) (threads : ℕ)
    → refusal_with threads p.plan.groups p.retries p.plan.tests ≡ None → units_in p < 2 ^ 32 → AreFew p
few_attempts p threads accepted few = record {
  units = few;
  attempts = λ j. by_test j (slice_get p.plan.tests j) refl;
}
  where
    by_test : (j : ℕ) (o : Option PlanTest) → slice_get p.plan.tests j ≡ o
        → retry_count (terms_if p o).retries + 1 < 2 ^ 32
    by_test j None e = omega arith
    by_test j (Some test) e =
        fits (retry_count (terms_if p (Some test)).retries)
        (not_too_many j (is_repeat p.plan.tests j) p.plan.groups p.retries test (unrefused p threads accepted j test e))
