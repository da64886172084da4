-- Tests that are added to a set, and the first item that is amiss.
use Rattle.std.proofs.Common.{◌≡◌, ◌∙◌, ℕ, zero, suc, ◌+◌, ◌<◌, ◌≤◌, ◌||◌, ◌&&◌, List, [], ◌∷◌, ◌++◌, length, take}
use Rattle.std.proofs.Common.{get_or, filter, Bool, true, false, cond, nat_lt, refl, sym}
use Rattle.std.proofs.Common.{ap, subst, arith}
use mathlib.Core.Bool.{beq, not}
use Rattle.std.specs.BTreeMap.{is_at}
use Rattle.std.specs.BTreeSet.{BTreeSet, contains}
use Rattle.std.proofs.lemmas.Bool.Decides.{nat_tests}
use Rattle.std.proofs.lemmas.List.{get_or_default, take_more}
use Rattle.std.proofs.lemmas.List.Filters.{length-filter_more}
use Rattle.std.proofs.lemmas.Option.{slice_get_read}
use Rattle.run_events.specs.declared.plan.TestInstanceId.{TestInstanceId}
use Rattle.run_model.specs.Reruns.{id_order, is_one_test}
use Rattle.run_rerun.specs.declared.answers.ShardsVerdict.{ShardsVerdict}
use Rattle.run_rerun.specs.declared.answers.ShardsVerdict.TheVariants.{Whole, Cut, Other, Twice, Missing}
use Rattle.run_rerun.specs.declared.answers.StoredRun.{StoredRun}
use Rattle.run_rerun.specs.Found.{SaysHad}
use Rattle.run_rerun.specs.Outstanding.{has_id}
use Rattle.run_rerun.specs.Shards.{AreComplete, AreOfOnePlan, IsFirstAmiss, SaysShards}
use Rattle.run_rerun.specs.Shards.{tests_wanted}
use Rattle.run_rerun.proofs.OutstandingLemmas.{among_more, same_test, set_with}

-- ---- tests among some

-- the first of some tests, and the next of them
among_next : (ids : List TestInstanceId) (i : ℕ) (id q : TestInstanceId) → i < length ids → id ≡ get_or ids i id
    → has_id (take (i + 1) ids) q ≡ (has_id (take i ids) q || is_one_test q id)
among_next ids i id q within is =
    ap (λ ids. has_id ids q) (take_more ids i id within) ∙ ap (λ e. has_id (take i ids ++ e ∷ []) q) (sym is)
    ∙ among_more (take i ids) id q

-- a set with one more test
added_one : (old new : BTreeSet TestInstanceId) (id q : TestInstanceId)
    → contains id_order new q ≡ cond (is_at (id_order id) q) true (contains id_order old q)
    → has_id new.keys q ≡ (has_id old.keys q || is_one_test q id)
added_one old new id q updated = set_with old new id q true updated ∙ either (is_one_test q id) (has_id old.keys q)
  where
    either : (a b : Bool) → cond a true b ≡ (b || a)
    either true true = refl
    either true false = refl
    either false true = refl
    either false false = refl

-- a set to which the first of some tests were added, with the next of them
pub added_next : (ids : List TestInstanceId) (i : ℕ) (id q : TestInstanceId) (start : Bool)
    (old new : BTreeSet TestInstanceId) → i < length ids → id ≡ get_or ids i id
    → has_id old.keys q ≡ (start || has_id (take i ids) q)
    → contains id_order new q ≡ cond (is_at (id_order id) q) true (contains id_order old q)
    → has_id new.keys q ≡ (start || has_id (take (i + 1) ids) q)
added_next ids i id q start old new within is before updated =
    added_one old new id q updated ∙ ap (λ r. r || is_one_test q id) before
    ∙ grouped start (has_id (take i ids) q) (is_one_test q id)
    ∙ ap (λ r. start || r) (sym (among_next ids i id q within is))
  where
    grouped : (a b d : Bool) → ((a || b) || d) ≡ (a || (b || d))
    grouped true b d = refl
    grouped false b d = refl

-- the same of those that are in another set
pub known_next : (ids known : List TestInstanceId) (i : ℕ) (id q : TestInstanceId) (start : Bool)
    (old new : BTreeSet TestInstanceId) → i < length ids → id ≡ get_or ids i id → has_id known id ≡ true
    → has_id old.keys q ≡ (start || (has_id (take i ids) q && has_id known q))
    → contains id_order new q ≡ cond (is_at (id_order id) q) true (contains id_order old q)
    → has_id new.keys q ≡ (start || (has_id (take (i + 1) ids) q && has_id known q))
known_next ids known i id q start old new within is has before updated =
    added_one old new id q updated ∙ ap (λ r. r || is_one_test q id) before
    ∙ by (is_one_test q id) refl
    ∙ ap (λ r. start || (r && has_id known q)) (sym (among_next ids i id q within is))
  where
    all_true : (a b d : Bool) → d ≡ true → ((a || (b && d)) || true) ≡ (a || ((b || true) && d))
    all_true true b d is = refl
    all_true false true d is = cc
    all_true false false d is = cc

    all_false : (a b d : Bool) → ((a || (b && d)) || false) ≡ (a || ((b || false) && d))
    all_false true b d = refl
    all_false false true true = refl
    all_false false true false = refl
    all_false false false d = refl

    by : (b : Bool) → is_one_test q id ≡ b → ((start || (has_id (take i ids) q && has_id known q)) || b)
        ≡ (start || ((has_id (take i ids) q || b) && has_id known q))
    by true one =
        all_true start (has_id (take i ids) q) (has_id known q) (ap (has_id known) (same_test q id one) ∙ has)
    by false one = all_false start (has_id (take i ids) q) (has_id known q)

pub unknown_next : (ids known : List TestInstanceId) (i : ℕ) (id q : TestInstanceId) (start old : Bool)
    → i < length ids → id ≡ get_or ids i id → has_id known id ≡ false
    → old ≡ (start || (has_id (take i ids) q && has_id known q))
    → old ≡ (start || (has_id (take (i + 1) ids) q && has_id known q))
unknown_next ids known i id q start old within is none before =
    before ∙ by (is_one_test q id) refl
    ∙ ap (λ r. start || (r && has_id known q)) (sym (among_next ids i id q within is))
  where
    all_true : (a b d : Bool) → d ≡ false → (a || (b && d)) ≡ (a || ((b || true) && d))
    all_true true b d is = refl
    all_true false true d is = refl
    all_true false false d is = sym is

    all_false : (a b d : Bool) → (a || (b && d)) ≡ (a || ((b || false) && d))
    all_false true b d = refl
    all_false false true d = refl
    all_false false false d = refl

    by : (b : Bool) → is_one_test q id ≡ b → (start || (has_id (take i ids) q && has_id known q))
        ≡ (start || ((has_id (take i ids) q || b) && has_id known q))
    by true one =
        all_true start (has_id (take i ids) q) (has_id known q) (ap (has_id known) (same_test q id one) ∙ none)
    by false one = all_false start (has_id (take i ids) q) (has_id known q)

-- ---- the first item that is amiss

-- none of the first items is, nor the next of them
pub right_next : {X : Type 0} (Right : X → Type 0) (xs : List X) (i : ℕ) (x : X) → i < length xs → x ≡ get_or xs i x
    → Right x → ((k : ℕ) (d : X) → k < i → Right (get_or xs k d)) → (k : ℕ) (d : X) → k < i + 1 → Right (get_or xs k d)
right_next {X} Right xs i x within is right before k d below = by (nat_lt k i) refl
  where
    by : (b : Bool) → nat_lt k i ≡ b → Right (get_or xs k d)
    by true lt = before k d (grind (arith, nat_tests, lt))
    by false ge =
        let same : k ≡ i = grind (arith, nat_tests, ge, below) in
        subst Right (is ∙ get_or_default xs i x d within ∙ ap (λ n. get_or xs n d) (sym same)) right

-- or the next of them is
pub amiss_here : {X : Type 0} (Right : X → Type 0) (xs : List X) (i : ℕ) (x : X) → i < length xs → x ≡ get_or xs i x
    → ¬ Right x → ((k : ℕ) (d : X) → k < i → Right (get_or xs k d)) → IsFirstAmiss Right xs i x
amiss_here Right xs i x within is amiss before =
    record { at = slice_get_read xs (length xs) i x refl within is; amiss = amiss; before = before }

-- two answers that aren't the same, or are
pub not_same : (a b : Bool) → not (beq a b) ≡ true → a ≡ b → ⊥
not_same true true is same = cc
not_same true false is same = cc
not_same false true is same = cc
not_same false false is same = cc

pub the_same : (a b : Bool) → not (beq a b) ≡ false → a ≡ b
the_same true true is = refl
the_same true false is = is
the_same false true is = sym is
the_same false false is = refl

-- in other words
pub amiss_as : {X : Type 0} (P Q : X → Type 0) (xs : List X) (place : ℕ) (x : X) → ((x : X) → P x → Q x)
    → ((x : X) → Q x → P x) → IsFirstAmiss P xs place x → IsFirstAmiss Q xs place x
amiss_as P Q xs place x there back first = record {
  at = first.at;
  amiss = λ q. first.amiss (back x q);
  before = λ k d below. there (get_or xs k d) (first.before k d below);
}

-- ---- verdicts

-- more than one shard has a test, or at most one
pub few : (b : Bool) (n : ℕ) → b ≡ nat_lt 1 n → b ≡ false → n ≤ 1
few b n is none = grind (arith, nat_tests, is, none)

pub few_back : (b : Bool) (n : ℕ) → b ≡ nat_lt 1 n → n ≤ 1 → b ≡ false
few_back b n is most = is ∙ grind (arith, nat_tests, most)

-- some shard has it, or none
pub some : (b : Bool) (n : ℕ) → b ≡ nat_lt 0 n → b ≡ true → 0 < n
some b n is has = grind (arith, nat_tests, is, has)

pub some_back : (b : Bool) (n : ℕ) → b ≡ nat_lt 0 n → 0 < n → b ≡ true
some_back b n is least = is ∙ grind (arith, nat_tests, least)

-- what is said of the tests is said of complete shards of one plan
pub says_all : (shards : List StoredRun) (verdict : ShardsVerdict) → AreComplete shards → AreOfOnePlan shards
    → SaysHad shards (tests_wanted shards) verdict → SaysShards shards verdict
says_all shards (Whole tests passed) complete one_plan (once, count, sum) =
    (record { complete = complete; one_plan = one_plan; once = once }, count, sum)
says_all shards (Twice id) complete one_plan first = (complete, one_plan, first)
says_all shards (Missing id) complete one_plan (most, first) = (complete, one_plan, most, first)
says_all shards (Cut place) complete one_plan says = absurd says
says_all shards (Other place) complete one_plan says = absurd says

-- how many of the first items pass, with the next of them
pub count_yes : {X : Type 0} (p : X → Bool) (xs : List X) (i : ℕ) (x : X) (n : ℕ) → i < length xs → x ≡ get_or xs i x
    → p x ≡ true → n ≡ length (filter p (take i xs)) → n + 1 ≡ length (filter p (take (i + 1) xs))
count_yes p xs i x n within is passes so =
    let here : p (get_or xs i x) ≡ true = ap p (sym is) ∙ passes in
    let more = length-filter_more p xs i x within
    ∙ ap (λ b. length (filter p (take i xs)) + cond b 1 0) here in
    omega (arith, so, more)

pub count_no : {X : Type 0} (p : X → Bool) (xs : List X) (i : ℕ) (x : X) (n : ℕ) → i < length xs → x ≡ get_or xs i x
    → p x ≡ false → n ≡ length (filter p (take i xs)) → n ≡ length (filter p (take (i + 1) xs))
count_no p xs i x n within is fails so =
    let here : p (get_or xs i x) ≡ false = ap p (sym is) ∙ fails in
    let more = length-filter_more p xs i x within
    ∙ ap (λ b. length (filter p (take i xs)) + cond b 1 0) here in
    omega (arith, so, more)
