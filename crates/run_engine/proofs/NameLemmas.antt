-- The names of groups in a set.
use Rattle.std.proofs.Common.{◌≡◌, ℕ, suc, ◌+◌, cond, ◌||◌, Bool, true, false, not, List, [], ◌∷◌, length}
use Rattle.std.proofs.Common.{Some, None, is_none, refl, ap, sym, ◌∙◌, nat_eq, nat_lt, arith}
use Rattle.std.specs.Prelude.{position}
use Rattle.std.specs.List.{list_any, position_or_len}
use Rattle.std.specs.Borrow.{Bor}
use Rattle.std.specs.BTreeSet.{BTreeSet, contains}
use Rattle.std.specs.Ordering.{nat_cmp}
use Rattle.std.specs.Cmp.Lexicographic.{slice_cmp}
use lib.Pointwise.{pointwise}
use Rattle.run_events.specs.declared.plan.Group.{Group}
use Rattle.run_admission.specs.InUse.{group_of}
use Rattle.run_engine.specs.Names.{HasNames}

lt_more : (a b : ℕ) (c : Bool) → nat_lt a b ≡ c → nat_lt (1 + a) (suc b) ≡ c
lt_more a b true e = grind (arith, e)
lt_more a b false e = grind (arith, e)

-- a place is found exactly where an item passes
found_any : {X : Type 0} (test : X → Bool) (xs : List X)
    → nat_lt (position_or_len test xs) (length xs) ≡ list_any test xs
found_any test [] = refl
found_any test (x ∷ xs) = by_first (test x) (found_any test xs)
  where
    by_first : (b : Bool) → nat_lt (position_or_len test xs) (length xs) ≡ list_any test xs
        → nat_lt (cond (not b) (1 + position_or_len test xs) 0) (suc (length xs)) ≡ (b || list_any test xs)
    by_first true later = grind arith
    by_first false later = lt_more (position_or_len test xs) (length xs) (list_any test xs) later

none_by : (b : Bool) (n : ℕ) → is_none (cond b (Some n) None) ≡ not b
none_by true n = refl
none_by false n = refl

none_any : {X : Type 0} (test : X → Bool) (xs : List X) → is_none (position test xs) ≡ not (list_any test xs)
none_any test xs = none_by (nat_lt (position_or_len test xs) (length xs)) (position_or_len test xs)
    ∙ ap not (found_any test xs)

-- a name that the set hasn't is of no group
pub names_none : (groups : List Group) (names : BTreeSet (Bor (List ℕ))) (name : List ℕ) → HasNames groups names
    → not (contains (λ x y. slice_cmp nat_cmp x.now y.now) names (record { ref_ptr = (0, 0); now = name }))
    ≡ is_none (group_of groups name)
names_none groups names name has =
    ap not (has (record { ref_ptr = (0, 0); now = name }))
    ∙ sym (none_any (λ (g : Group). pointwise nat_eq g.name name) groups)
