-- What is held of some items, as one of them changes.
use Rattle.std.specs.Prelude.{slice_get}
use Rattle.std.proofs.Common.{◌≡◌, ◌∙◌, ℕ, zero, suc, List, [], ◌∷◌, set, Option, Some, None, is_some, cond}
use Rattle.std.proofs.Common.{Bool, true, false, ◌&&◌, ◌||◌, not, refl, sym, ap, ap₂, subst, true≢false}
use Rattle.std.specs.BTreeMap.{is_at}
use Rattle.std.specs.List.{list_all, list_any}
use Rattle.std.specs.Option.{option_map_or}
use Rattle.std.specs.declared.cmp.Ordering.{Ordering}
use Rattle.std.proofs.lemmas.Option.{same_Some}
use Rattle.run_audit_machines.specs.Holders.{is_key, is_slot_free}
use Rattle.run_audit_machines.specs.Machines.{IsSame}
use Rattle.run_audit_machines.proofs.ClashLemmas.{same_answer}
use Rattle.run_audit_passes.specs.LimitTable.{IsHeld, StandsAlone, held_after, is_free_beside, is_it, left_held}

-- ---- an item that is set

pub get_set : {S : Type 0} (items : List S) (place : ℕ) (old new : S) → slice_get items place ≡ Some old
    → slice_get (set items place new) place ≡ Some new
get_set [] place old new is = absurd (true≢false (ap is_some (sym is)))
get_set (s ∷ items) zero old new is = refl
get_set (s ∷ items) (suc place) old new is = get_set items place old new is

pub set_same : {S : Type 0} (items : List S) (place : ℕ) (old : S) → slice_get items place ≡ Some old
    → set items place old ≡ items
set_same [] place old is = refl
set_same (s ∷ items) zero old is = ap (λ x. x ∷ items) (sym (same_Some s old is))
set_same (s ∷ items) (suc place) old is = ap (λ l. s ∷ l) (set_same items place old is)

-- ---- some item has a slot: that at a place, or another

any_all : {S : Type 0} (test : S → Bool) (items : List S)
    → list_any test items ≡ not (list_all (λ x. not (test x)) items)
any_all test [] = refl
any_all test (s ∷ items) = by (test s) (any_all test items)
  where
    by : (b : Bool) → list_any test items ≡ not (list_all (λ x. not (test x)) items)
        → (b || list_any test items) ≡ not (not b && list_all (λ x. not (test x)) items)
    by true more = refl
    by false more = more

sorted_out : (own here free : Bool) → (here || (own || not free)) ≡ (own || not (not here && free))
sorted_out own true free = by own
  where
    by : (b : Bool) → true ≡ (b || true)
    by true = refl
    by false = refl
sorted_out own false free = refl

any_split : {S K : Type 0} (same : K → K → Bool) (key : S → Option K) (k : K) (items : List S) (place : ℕ) (own : S)
    → slice_get items place ≡ Some own → list_any (is_key same key (Some k)) items
    ≡ (is_key same key (Some k) own || not (is_slot_free same key (Some k) place items))
any_split same key k [] place own is = absurd (true≢false (ap is_some (sym is)))
any_split same key k (s ∷ items) zero own is =
    ap₂ (λ a b. a || b) (ap (is_key same key (Some k)) (same_Some s own is))
    (any_all (is_key same key (Some k)) items)
any_split same key k (s ∷ items) (suc place) own is =
    ap (λ b. is_key same key (Some k) s || b) (any_split same key k items place own is)
    ∙ sorted_out (is_key same key (Some k) own) (is_key same key (Some k) s)
    (is_slot_free same key (Some k) place items)

free_set : {S K : Type 0} (same : K → K → Bool) (key : S → Option K) (o : Option K) (items : List S) (place : ℕ)
    (new : S) → is_slot_free same key o place (set items place new) ≡ is_slot_free same key o place items
free_set same key o [] place new = refl
free_set same key o (s ∷ items) zero new = refl
free_set same key o (s ∷ items) (suc place) new =
    ap (λ b. not (is_key same key o s) && b) (free_set same key o items place new)

any_set : {S K : Type 0} (same : K → K → Bool) (key : S → Option K) (k : K) (items : List S) (place : ℕ) (old new : S)
    → slice_get items place ≡ Some old → list_any (is_key same key (Some k)) (set items place new)
    ≡ (is_key same key (Some k) new || not (is_slot_free same key (Some k) place items))
any_set same key k items place old new is =
    any_split same key k (set items place new) place new (get_set items place old new is)
    ∙ ap (λ b. is_key same key (Some k) new || not b) (free_set same key (Some k) items place new)

all_none : {S : Type 0} (items : List S) → list_all (λ x. not false) items ≡ true
all_none [] = refl
all_none (s ∷ items) = all_none items

pub free_none : {S K : Type 0} (same : K → K → Bool) (key : S → Option K) (items : List S) (place : ℕ)
    → is_slot_free same key None place items ≡ true
free_none same key [] place = refl
free_none same key (s ∷ items) zero = all_none items
free_none same key (s ∷ items) (suc place) = free_none same key items place

-- ---- what is held

turned : {K : Type 0} (same : K → K → Bool) → IsSame same → (a b : K) → same a b ≡ same b a
turned same is_same a b = same_answer (same a b) (same b a) (λ is. (is_same b a).1 (sym ((is_same a b).0 is)))
    (λ is. (is_same a b).1 (sym ((is_same b a).0 is)))

it_key : {K : Type 0} (same : K → K → Bool) (cmp : K → K → Ordering) → IsSame same
    → ((a b : K) → is_at (cmp a) b ≡ same a b) → (k : K) (o : Option K)
    → is_it cmp o k ≡ option_map_or (same k) o false
it_key same cmp is_same order k None = refl
it_key same cmp is_same order k (Some own) = order own k ∙ turned same is_same own k

left_out : (own free here held : Bool) → own ≡ here → held ≡ (here || not free) → (own ≡ true → free ≡ true)
    → cond own false held ≡ not free
left_out true free here held is what other = ap not (sym (other refl))
left_out false free here held is what other = what ∙ ap (λ b. b || not free) (sym is)

key_there : {K : Type 0} (same : K → K → Bool) → IsSame same → (k : K) (o : Option K)
    → option_map_or (same k) o false ≡ true → o ≡ Some k
key_there same is_same k None is = absurd (true≢false (sym is))
key_there same is_same k (Some own) is = ap Some (sym ((is_same k own).0 is))

left_are : {S K : Type 0} (same : K → K → Bool) (cmp : K → K → Ordering) (key : S → Option K) (held : K → Bool)
    (items : List S) (place : ℕ) (old : S) → IsSame same → ((a b : K) → is_at (cmp a) b ≡ same a b)
    → IsHeld same key held items → StandsAlone same key items place old → (k : K)
    → left_held cmp held (key old) k ≡ not (is_slot_free same key (Some k) place items)
left_are same cmp key held items place old is_same order held_are own k =
    let it = it_key same cmp is_same order k (key old) in
    left_out (is_it cmp (key old) k) (is_slot_free same key (Some k) place items) (is_key same key (Some k) old)
    (held k) it (held_are k ∙ any_split same key k items place old own.there)
    (λ is. subst (λ o. is_slot_free same key o place items ≡ true) (key_there same is_same k (key old) (sym it ∙ is))
    own.free)

cond_or : (a b : Bool) → cond a true b ≡ (a || b)
cond_or true b = refl
cond_or false b = refl

pub held_changed : {S K : Type 0} (same : K → K → Bool) (cmp : K → K → Ordering) (key : S → Option K)
    (held after : K → Bool) (items : List S) (place : ℕ) (old new : S) → IsSame same
    → ((a b : K) → is_at (cmp a) b ≡ same a b) → IsHeld same key held items → StandsAlone same key items place old
    → ((k : K) → after k ≡ held_after cmp held (key old) (key new) k) → IsHeld same key after (set items place new)
held_changed same cmp key held after items place old new is_same order held_are own are k =
    are k ∙ cond_or (is_it cmp (key new) k) (left_held cmp held (key old) k)
    ∙ ap₂ (λ a b. a || b) (it_key same cmp is_same order k (key new))
    (left_are same cmp key held items place old is_same order held_are own k)
    ∙ sym (any_set same key k items place old new own.there)

not_not : (b : Bool) → not (not b) ≡ b
not_not true = refl
not_not false = refl

pub free_beside : {S K : Type 0} (same : K → K → Bool) (cmp : K → K → Ordering) (key : S → Option K)
    (held : K → Bool) (items : List S) (place : ℕ) (old : S) → IsSame same
    → ((a b : K) → is_at (cmp a) b ≡ same a b) → IsHeld same key held items → StandsAlone same key items place old
    → (o : Option K) → is_free_beside cmp held (key old) o ≡ is_slot_free same key o place items
free_beside same cmp key held items place old is_same order held_are own None = sym (free_none same key items place)
free_beside same cmp key held items place old is_same order held_are own (Some k) =
    ap not (left_are same cmp key held items place old is_same order held_are own k)
    ∙ not_not (is_slot_free same key (Some k) place items)
