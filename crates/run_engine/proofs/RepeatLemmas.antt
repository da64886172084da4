-- The test that has the id of an earlier one, and why it is refused.
use Rattle.std.proofs.Common.{◌≡◌, ℕ, ◌||◌, cond, Bool, true, not, ap, sym, ◌∙◌, refl, List, take}
use Rattle.std.proofs.Common.{false, slice_get, Option, Some, option_and_then}
use Rattle.std.specs.List.{list_any}
use Rattle.run_events.specs.declared.plan.PlanTest.{PlanTest}
use Rattle.run_events.specs.declared.plan.Group.{Group}
use Rattle.run_events.specs.declared.retry_policy.RetryPolicy.{RetryPolicy}
use Rattle.run_engine.specs.Builder.{is_among, is_repeat, refusal_at, test_refusal}
use Rattle.run_model.specs.Reruns.{is_one_test}

-- what a set has after an insertion
cond_or : (b had : Bool) → cond b true had ≡ (had || b)
cond_or true true = refl
cond_or true false = refl
cond_or false true = refl
cond_or false false = refl

pub one_more : (b had c d : Bool) → b ≡ d → had ≡ c → cond b true had ≡ (c || d)
one_more b had c d e f = cond_or b had ∙ ap (λ h. h || b) f ∙ ap (λ b. c || b) e

-- an insertion that adds nothing found what it inserts, and one that adds didn't
pub found : (added had : Bool) → added ≡ not had → not added ≡ had
found added had e = ap not e ∙ twice had
  where
    twice : (b : Bool) → not (not b) ≡ b
    twice true = refl
    twice false = refl

-- why the test at a place is refused, by what it is and whether it repeats an id
pub refusal_here : (groups : List Group) (retries : Option RetryPolicy) (tests : List PlanTest) (k : ℕ)
    (test : PlanTest)
    (repeats : Bool)
    → slice_get tests k ≡ Some test → list_any (λ t. is_one_test t.id test.id) (take k tests) ≡ repeats
    → test_refusal groups retries tests k ≡ refusal_at k repeats groups retries test
refusal_here groups retries tests k test repeats at among =
    ap (option_and_then (refusal_at k (is_repeat tests k) groups retries)) at
    ∙ ap (λ r. refusal_at k r groups retries test) (ap (is_among (take k tests)) at ∙ among)
