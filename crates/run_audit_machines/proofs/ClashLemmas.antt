-- What one seat that changes makes of seats that were apart: they stay so just where it clashes with no other.
use Rattle.std.specs.Prelude.{slice_get}
use Rattle.std.proofs.Common.{◌≡◌, ◌∙◌, ℕ, zero, suc, List, [], ◌∷◌, set, Some, Bool, true, false, ◌&&◌, not}
use Rattle.std.proofs.Common.{is_some, refl, sym, ap, ap₂, true≢false}
use Rattle.std.specs.List.{list_all}
use Rattle.std.proofs.lemmas.Bool.{and_parts}
use Rattle.run_events.specs.declared.plan.Group.{Group}
use Rattle.run_audit_machines.specs.Limits.{Seated, are_apart, clash}
use Rattle.run_audit_machines.proofs.SlotLemmas.{clash_turned}

-- a seat at a place clashes with none of the others
abbrev pub others_apart : List Group → Seated → ℕ → List Seated → Bool
others_apart groups s place [] = true
others_apart groups s zero (t ∷ seats) = list_all (λ x. not (clash groups s x)) seats
others_apart groups s (suc place) (t ∷ seats) = not (clash groups s t) && others_apart groups s place seats

pub same_answer : (a b : Bool) → (a ≡ true → b ≡ true) → (b ≡ true → a ≡ true) → a ≡ b
same_answer true b to from = sym (to refl)
same_answer false true to from = from refl
same_answer false false to from = refl

either_way : (groups : List Group) (x y : Seated) → clash groups x y ≡ clash groups y x
either_way groups x y =
    same_answer (clash groups x y) (clash groups y x) (clash_turned groups x y) (clash_turned groups y x)

and_true : (a b : Bool) → b ≡ true → (a && b) ≡ a
and_true true b is = is
and_true false b is = refl

all_set : (passes : Seated → Bool) (seats : List Seated) (place : ℕ) (old new : Seated)
    → list_all passes seats ≡ true → slice_get seats place ≡ Some old
    → list_all passes (set seats place new) ≡ passes new
all_set passes [] place old new all is = absurd (true≢false (ap is_some (sym is)))
all_set passes (s ∷ seats) zero old new all is =
    and_true (passes new) (list_all passes seats) (and_parts (passes s) (list_all passes seats) all).1
all_set passes (s ∷ seats) (suc place) old new all is =
    let parts = and_parts (passes s) (list_all passes seats) all in
    ap (λ b. b && list_all passes (set seats place new)) parts.0 ∙ all_set passes seats place old new parts.1 is

pub apart_set : (groups : List Group) (seats : List Seated) (place : ℕ) (old new : Seated)
    → are_apart groups seats ≡ true → slice_get seats place ≡ Some old
    → are_apart groups (set seats place new) ≡ others_apart groups new place seats
apart_set groups [] place old new apart is = absurd (true≢false (ap is_some (sym is)))
apart_set groups (s ∷ seats) zero old new apart is =
    and_true (list_all (λ x. not (clash groups new x)) seats) (are_apart groups seats)
    (and_parts (list_all (λ x. not (clash groups s x)) seats) (are_apart groups seats) apart).1
apart_set groups (s ∷ seats) (suc place) old new apart is =
    let parts = and_parts (list_all (λ x. not (clash groups s x)) seats) (are_apart groups seats) apart in
    ap₂ (λ a b. a && b)
    (all_set (λ x. not (clash groups s x)) seats place old new parts.0 is ∙ ap not (either_way groups s new))
    (apart_set groups seats place old new parts.1 is)
