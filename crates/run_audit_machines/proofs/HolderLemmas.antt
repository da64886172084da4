-- Seats clash just where they have the same slot.
use Rattle.std.proofs.Common.{◌≡◌, ◌∙◌, ℕ, zero, suc, nat_eq, List, [], ◌∷◌, Option, Some, None, option_map}
use Rattle.std.proofs.Common.{Bool, true, false, ◌&&◌, ◌||◌, not, if◌then◌else◌, refl, ap₂}
use Rattle.std.specs.List.{list_all}
use Rattle.run_events.specs.declared.plan.Group.{Group}
use Rattle.run_events.specs.declared.plan.TestSlotAssignment.{TestSlotAssignment}
use Rattle.run_laws_events.specs.PlanLimits.{group_of_plan}
use Rattle.run_audit_machines.specs.Holders.{own_group_slot, is_key, is_slot_free}
use Rattle.run_audit_machines.specs.Holders.{same_slot}
use Rattle.run_audit_machines.specs.Holders.{group_slot_told, slot_told}
use Rattle.run_audit_machines.specs.Limits.{Seated, clash, clash_in, is_same_group, is_same_number, is_seated}
use Rattle.run_audit_machines.proofs.ClashLemmas.{others_apart}

abbrev share_in : (g h : Option (List ℕ)) → Option TestSlotAssignment → Option TestSlotAssignment → Bool
share_in g h (Some s) (Some t) = nat_eq s.global t.global || (is_same_group g h
    && is_same_number (option_map (λ g. g.slot) s.group) (option_map (λ g. g.slot) t.group))
share_in g h _ _ = false

slots_clash : (g h : Option (List ℕ)) (a b : Bool) (s t : Option TestSlotAssignment)
    → ((a && b) && share_in g h s t)
    ≡ (is_key nat_eq (λ o. o) (if a then option_map (λ t. t.global) s else None)
    (if b then option_map (λ t. t.global) t else None)
    || is_key same_slot (λ o. o) (if a then group_slot_told g s else None) (if b then group_slot_told h t else None))
slots_clash g h false b s t = refl
slots_clash None h true false None t = refl
slots_clash (Some n) h true false None t = refl
slots_clash None h true false (Some s) t = refl
slots_clash (Some n) h true false (Some s) t = refl
slots_clash None h true true None t = refl
slots_clash (Some n) h true true None t = refl
slots_clash None None true true (Some s) None = refl
slots_clash None (Some m) true true (Some s) None = refl
slots_clash (Some n) None true true (Some s) None = refl
slots_clash (Some n) (Some m) true true (Some s) None = refl
slots_clash None h true true (Some s) (Some t) = refl
slots_clash (Some n) None true true (Some s) (Some t) = refl
slots_clash (Some n) (Some m) true true (Some s) (Some t) = refl

clash_shares : (groups : List Group) (x y : Seated) → clash groups x y
    ≡ ((is_seated x && is_seated y) && share_in (group_of_plan groups x.0.group) (group_of_plan groups y.0.group)
    x.1.slots y.1.slots)
clash_shares groups x y = by x.1.slots y.1.slots
  where
    by : (s t : Option TestSlotAssignment) → ((is_seated x && is_seated y) && clash_in groups x.0 y.0 s t)
        ≡ ((is_seated x && is_seated y)
        && share_in (group_of_plan groups x.0.group) (group_of_plan groups y.0.group) s t)
    by None t = refl
    by (Some s) None = refl
    by (Some s) (Some t) = refl

key_of : {S K : Type 0} (same : K → K → Bool) (key : S → Option K) (o : Option K) (s : S)
    → is_key same (λ o. o) o (key s) ≡ is_key same key o s
key_of same key None s = refl
key_of same key (Some k) s = refl

pub clash_by_slots : (groups : List Group) (x y : Seated) → clash groups x y
    ≡ (is_key nat_eq slot_told (slot_told x) y || is_key same_slot (own_group_slot groups) (own_group_slot groups x) y)
clash_by_slots groups x y =
    clash_shares groups x y
    ∙ slots_clash (group_of_plan groups x.0.group) (group_of_plan groups y.0.group) (is_seated x) (is_seated y)
    x.1.slots y.1.slots
    ∙ ap₂ (λ a b. a || b) (key_of nat_eq slot_told (slot_told x) y)
    (key_of same_slot (own_group_slot groups) (own_group_slot groups x) y)

sorted_out : (a g f h : Bool) → (not (a || g) && (f && h)) ≡ ((not a && f) && (not g && h))
sorted_out true g f h = refl
sorted_out false true true h = refl
sorted_out false true false h = refl
sorted_out false false f h = refl

all_sorted : {S : Type 0} (test one two : S → Bool) → ((x : S) → test x ≡ (one x || two x)) → (items : List S)
    → list_all (λ x. not (test x)) items ≡ (list_all (λ x. not (one x)) items && list_all (λ x. not (two x)) items)
all_sorted test one two is [] = refl
all_sorted test one two is (s ∷ items) =
    ap₂ (λ a b. not a && b) (is s) (all_sorted test one two is items)
    ∙ sorted_out (one s) (two s) (list_all (λ x. not (one x)) items) (list_all (λ x. not (two x)) items)

-- so a seat clashes with none of the others just where both its slots are free
pub apart_by_slots : (groups : List Group) (new : Seated) (place : ℕ) (seats : List Seated)
    → others_apart groups new place seats
    ≡ (is_slot_free nat_eq slot_told (slot_told new) place seats
    && is_slot_free same_slot (own_group_slot groups) (own_group_slot groups new) place seats)
apart_by_slots groups new place [] = refl
apart_by_slots groups new zero (s ∷ seats) =
    all_sorted (clash groups new) (is_key nat_eq slot_told (slot_told new))
    (is_key same_slot (own_group_slot groups) (own_group_slot groups new)) (clash_by_slots groups new) seats
apart_by_slots groups new (suc place) (s ∷ seats) =
    ap₂ (λ a b. not a && b) (clash_by_slots groups new s) (apart_by_slots groups new place seats)
    ∙ sorted_out (is_key nat_eq slot_told (slot_told new) s)
    (is_key same_slot (own_group_slot groups) (own_group_slot groups new) s)
    (is_slot_free nat_eq slot_told (slot_told new) place seats)
    (is_slot_free same_slot (own_group_slot groups) (own_group_slot groups new) place seats)
