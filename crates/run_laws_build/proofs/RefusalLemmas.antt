-- A plan is refused for the first rule that it breaks, and accepted where it breaks none.
use Rattle.std.proofs.Common.{◌≡◌, ℕ, zero, suc, ◌<◌, ◌==◌, List, [], ◌∷◌, length, Bool, true, false, if◌then◌else◌}
use Rattle.std.proofs.Common.{Option, Some, None, is_some, option_map, option_and_then, position, slice_get, refl, ap}
use Rattle.std.proofs.Common.{sym, subst, ◌∙◌, arith}
use Rattle.std.specs.Option.{option_or}
use Rattle.std.specs.List.{range_with_len}
use Rattle.std.proofs.lemmas.Bool.Decides.{Decides-eqb}
use Rattle.std.proofs.lemmas.Option.{same_Some, slice_get_within}
use Rattle.run_events.specs.declared.plan.Group.{Group}
use Rattle.run_events.specs.declared.plan.Plan.{Plan}
use Rattle.run_events.specs.declared.plan.PlanTest.{PlanTest}
use Rattle.run_engine.specs.Builder.{Builder, refusal_of, test_refusal, threads_of}
use Rattle.run_engine.specs.declared.errors.TestRunnerBuildError.{TestRunnerBuildError}
use Rattle.run_engine.specs.declared.errors.TestRunnerBuildError.TheVariants.{ZeroLimit}
use Rattle.run_laws_build.specs.Refusals.{AcceptedPlansBreakNone, BreaksNone, HasLimits, IsFirstToBreak, IsFirstWithout}
use Rattle.run_laws_build.specs.Refusals.{IsRefusedFor, RefusalsAreFirst}
use Rattle.run_laws_build.proofs.FirstLemmas.{first_position, none_position, number_at, number_there}
use Rattle.run_laws_build.proofs.FirstLemmas.{position_first, position_none}
use Rattle.run_laws_build.proofs.RuleLemmas.{breaks_so, none_so, so_none, so_refused}

-- whether the limit of a group is 0
is_without : Group → Bool
is_without group = group.limit == 0

-- whether the test at a place is refused
is_refused : Builder → Plan → ℕ → Bool
is_refused builder plan k = is_some (test_refusal plan.groups builder.retries plan.tests k)

-- why a plan is refused, by whether the limit on all tests is 0, the first group whose limit is, and the first test
-- that is refused
refusal_by : Builder → Plan → Bool → Option ℕ → Option ℕ → Option TestRunnerBuildError
refusal_by builder plan none group test =
    option_or (option_map ZeroLimit (if none then Some None else option_map Some group))
    (option_and_then (test_refusal plan.groups builder.retries plan.tests) test)

groups_first : Plan → Option ℕ
groups_first plan = position is_without plan.groups

tests_first : Builder → Plan → Option ℕ
tests_first builder plan = position (is_refused builder plan) (range_with_len 0 (length plan.tests))

refusal-is : (builder : Builder) (plan : Plan)
    → refusal_of builder plan
    ≡ refusal_by builder plan (threads_of builder == 0) (groups_first plan) (tests_first builder plan)
unfolding refusal_by groups_first tests_first is_without is_refused
refusal-is builder plan = refl

item_at : {X : Type 0} (xs : List X) (k : ℕ) → k < length xs → (x : X) × (slice_get xs k ≡ Some x)
item_at [] k below = absurd (omega (arith, below))
item_at (x ∷ xs) zero below = (x, refl)
item_at (x ∷ xs) (suc k) below = item_at xs k (omega (arith, below))

not_true : (n : ℕ) → (n ≡ 0 → ⊥) → (n == 0) ≡ false
not_true n none = by_case (n == 0) refl
  where
    by_case : (b : Bool) → (n == 0) ≡ b → b ≡ false
    by_case false e = refl
    by_case true e = absurd (none ((Decides-eqb n 0).0 e))

not_zero : (n : ℕ) → (n == 0) ≡ false → n ≡ 0 → ⊥
not_zero n e is = let never : true ≡ false = sym ((Decides-eqb n 0).1 is) ∙ e in cc

none_some : {X : Type 0} (o : Option X) → is_some o ≡ false → o ≡ None
none_some None e = refl
none_some (Some x) e = cc

-- no limit is 0
limits_so : (builder : Builder) (plan : Plan) → (threads_of builder == 0) ≡ false → groups_first plan ≡ None
    → HasLimits builder plan
unfolding groups_first is_without
limits_so builder plan some none = record {
  threads = not_zero (threads_of builder) some;
  groups = λ g group at. not_zero group.limit (position_none is_without plan.groups none g group at);
}

so_limits : (builder : Builder) (plan : Plan) → HasLimits builder plan → groups_first plan ≡ None
unfolding groups_first is_without
so_limits builder plan h =
    none_position is_without plan.groups (λ g group at. not_true group.limit (h.groups g group at))

-- the first group whose limit is 0
without_so : (plan : Plan) (g : ℕ) → groups_first plan ≡ Some g → IsFirstWithout plan.groups g
unfolding groups_first is_without
without_so plan g is =
    let found = position_first is_without plan.groups g is in
    record {
      group = found.0;
      at = found.1.at;
      limit = (Decides-eqb found.0.limit 0).0 found.1.passes;
      earlier = λ h other below at. not_zero other.limit (found.1.earlier h other below at);
    }

so_without : (plan : Plan) (g : ℕ) → IsFirstWithout plan.groups g → groups_first plan ≡ Some g
unfolding groups_first is_without
so_without plan g h = first_position is_without plan.groups g h.group (record {
  at = h.at;
  passes = (Decides-eqb h.group.limit 0).1 h.limit;
  earlier = λ i other below at. not_true other.limit (h.earlier i other below at);
})

-- the first test that is refused
first_so : (builder : Builder) (plan : Plan) (k : ℕ) (e : TestRunnerBuildError) → tests_first builder plan ≡ Some k
    → test_refusal plan.groups builder.retries plan.tests k ≡ Some e → IsFirstToBreak builder plan e
unfolding tests_first is_refused
first_so builder plan k e is why =
    let found = position_first (is_refused builder plan) (range_with_len 0 (length plan.tests)) k is in
    let within = (number_there (length plan.tests) k found.0 found.1.at).0 in
    let there = item_at plan.tests k within in
    record {
      place = k;
      test = there.0;
      at = there.1;
      breaks = breaks_so builder plan k there.0 e there.1 why;
      earlier = λ i other below at. none_so builder plan i other at (none_some _ (found.1.earlier i i below
          (number_at (length plan.tests) i (slice_get_within plan.tests i other at))));
    }

so_first : (builder : Builder) (plan : Plan) (e : TestRunnerBuildError) (h : IsFirstToBreak builder plan e)
    → tests_first builder plan ≡ Some h.place
unfolding tests_first is_refused
so_first builder plan e h =
    first_position (is_refused builder plan) (range_with_len 0 (length plan.tests)) h.place h.place (record {
      at = number_at (length plan.tests) h.place (slice_get_within plan.tests h.place h.test h.at);
      passes = ap is_some (so_refused builder plan h.place h.test e h.at h.breaks);
      earlier = earlier;
    })
  where
    earlier : (i j : ℕ) → i < h.place → slice_get (range_with_len 0 (length plan.tests)) i ≡ Some j
        → is_refused builder plan j ≡ false
    earlier i j below at =
        let it = number_there (length plan.tests) i j at in
        let there = item_at plan.tests i it.0 in
        ap (is_refused builder plan) it.1
        ∙ ap is_some (so_none builder plan i there.0 there.1 (h.earlier i there.0 below there.1))

-- no test is refused
none_first : (builder : Builder) (plan : Plan) → tests_first builder plan ≡ None → (k : ℕ) (test : PlanTest)
    → slice_get plan.tests k ≡ Some test → BreaksNone builder plan k test
unfolding tests_first is_refused
none_first builder plan is k test at = none_so builder plan k test at
    (none_some _ (position_none (is_refused builder plan) (range_with_len 0 (length plan.tests)) is k k
    (number_at (length plan.tests) k (slice_get_within plan.tests k test at))))

first_none : (builder : Builder) (plan : Plan)
    → ((k : ℕ) (test : PlanTest) → slice_get plan.tests k ≡ Some test → BreaksNone builder plan k test)
    → tests_first builder plan ≡ None
unfolding tests_first is_refused
first_none builder plan each =
    none_position (is_refused builder plan) (range_with_len 0 (length plan.tests)) none
  where
    none : (i j : ℕ) → slice_get (range_with_len 0 (length plan.tests)) i ≡ Some j
        → is_refused builder plan j ≡ false
    none i j at =
        let it = number_there (length plan.tests) i j at in
        let there = item_at plan.tests i it.0 in
        ap (is_refused builder plan) it.1 ∙ ap is_some (so_none builder plan i there.0 there.1 (each i there.0 there.1))

-- a rule of tests is one
of_tests : (builder : Builder) (plan : Plan) (e : TestRunnerBuildError) → HasLimits builder plan
    → IsFirstToBreak builder plan e → IsRefusedFor builder plan e
of_tests builder plan (ZeroLimit None) limits h = absurd h.breaks
of_tests builder plan (ZeroLimit (Some g)) limits h = absurd h.breaks
of_tests builder plan e limits h = (limits, h)

forward : (builder : Builder) (plan : Plan) (e : TestRunnerBuildError) → refusal_of builder plan ≡ Some e
    → IsRefusedFor builder plan e
unfolding refusal_by
forward builder plan e is =
    by_threads (threads_of builder == 0) refl (sym (refusal-is builder plan) ∙ is)
  where
    by_test : (o : Option ℕ) → tests_first builder plan ≡ o → HasLimits builder plan
        → refusal_by builder plan false None o ≡ Some e → IsRefusedFor builder plan e
    by_test None first limits is = cc
    by_test (Some k) first limits is = of_tests builder plan e limits (first_so builder plan k e first is)

    by_group : (o : Option ℕ) → groups_first plan ≡ o → (threads_of builder == 0) ≡ false
        → refusal_by builder plan false o (tests_first builder plan) ≡ Some e → IsRefusedFor builder plan e
    by_group (Some g) first some is =
        subst (IsRefusedFor builder plan) (same_Some (ZeroLimit (Some g)) e is)
        (not_zero (threads_of builder) some, without_so plan g first)
    by_group None first some is =
        by_test (tests_first builder plan) refl (limits_so builder plan some first) is

    by_threads : (b : Bool) → (threads_of builder == 0) ≡ b
        → refusal_by builder plan b (groups_first plan) (tests_first builder plan) ≡ Some e
        → IsRefusedFor builder plan e
    by_threads true none is =
        subst (IsRefusedFor builder plan) (same_Some (ZeroLimit None) e is)
        ((Decides-eqb (threads_of builder) 0).0 none)
    by_threads false some is = by_group (groups_first plan) refl some is

with_limits : (builder : Builder) (plan : Plan) → HasLimits builder plan
    → refusal_of builder plan
    ≡ option_and_then (test_refusal plan.groups builder.retries plan.tests) (tests_first builder plan)
unfolding refusal_by
with_limits builder plan limits =
    refusal-is builder plan
    ∙ ap (λ b. refusal_by builder plan b (groups_first plan) (tests_first builder plan))
    (not_true (threads_of builder) limits.threads)
    ∙ ap (λ o. refusal_by builder plan false o (tests_first builder plan)) (so_limits builder plan limits)

back : (builder : Builder) (plan : Plan) (e : TestRunnerBuildError) → IsRefusedFor builder plan e
    → refusal_of builder plan ≡ Some e
unfolding refusal_by
back builder plan (ZeroLimit None) h =
    refusal-is builder plan
    ∙ ap (λ b. refusal_by builder plan b (groups_first plan) (tests_first builder plan))
    ((Decides-eqb (threads_of builder) 0).1 h)
back builder plan (ZeroLimit (Some g)) h =
    refusal-is builder plan
    ∙ ap (λ b. refusal_by builder plan b (groups_first plan) (tests_first builder plan))
    (not_true (threads_of builder) h.0)
    ∙ ap (λ o. refusal_by builder plan false o (tests_first builder plan)) (so_without plan g h.1)
back builder plan e h =
    with_limits builder plan h.0
    ∙ ap (option_and_then (test_refusal plan.groups builder.retries plan.tests)) (so_first builder plan e h.1)
    ∙ so_refused builder plan h.1.place h.1.test e h.1.at h.1.breaks

pub refused : RefusalsAreFirst
refused builder plan e = (forward builder plan e, back builder plan e)

-- and where no rule is broken it isn't refused
refused_some : (builder : Builder) (plan : Plan) (k : ℕ) → tests_first builder plan ≡ Some k
    → is_some (test_refusal plan.groups builder.retries plan.tests k) ≡ true
unfolding tests_first is_refused
refused_some builder plan k is =
    let found = position_first (is_refused builder plan) (range_with_len 0 (length plan.tests)) k is in
    ap (is_refused builder plan) (sym (number_there (length plan.tests) k found.0 found.1.at).1) ∙ found.1.passes

IsSound : Builder → Plan → Type 0
IsSound builder plan = HasLimits builder plan
    × ((k : ℕ) (test : PlanTest) → slice_get plan.tests k ≡ Some test → BreaksNone builder plan k test)

unrefused : (builder : Builder) (plan : Plan) → refusal_of builder plan ≡ None → IsSound builder plan
unfolding refusal_by IsSound
unrefused builder plan is = by_threads (threads_of builder == 0) refl (sym (refusal-is builder plan) ∙ is)
  where
    by_test : (o : Option ℕ) → tests_first builder plan ≡ o → HasLimits builder plan
        → refusal_by builder plan false None o ≡ None → IsSound builder plan
    by_test None first limits is = (limits, none_first builder plan first)
    by_test (Some k) first limits is =
        let never : true ≡ false = sym (refused_some builder plan k first) ∙ ap is_some is in cc

    by_group : (o : Option ℕ) → groups_first plan ≡ o → (threads_of builder == 0) ≡ false
        → refusal_by builder plan false o (tests_first builder plan) ≡ None → IsSound builder plan
    by_group (Some g) first some is = cc
    by_group None first some is =
        by_test (tests_first builder plan) refl (limits_so builder plan some first) is

    by_threads : (b : Bool) → (threads_of builder == 0) ≡ b
        → refusal_by builder plan b (groups_first plan) (tests_first builder plan) ≡ None → IsSound builder plan
    by_threads true none is = cc
    by_threads false some is = by_group (groups_first plan) refl some is

pub accepted : AcceptedPlansBreakNone
unfolding IsSound
accepted builder plan = (
  unrefused builder plan,
  λ sound. with_limits builder plan sound.0
      ∙ ap (option_and_then (test_refusal plan.groups builder.retries plan.tests))
      (first_none builder plan sound.1),
)
