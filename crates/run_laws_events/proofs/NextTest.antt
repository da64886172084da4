-- The test that is admitted stands first among those that may come.
use Rattle.std.proofs.Common.{◌≡◌, ℕ, ◌<◌, List, length, get_or, Bool, true, false, not, ◌&&◌, Option, Some, None}
use Rattle.std.proofs.Common.{option_map, option_and_then, slice_get, position, refl, ap, sym, ◌∙◌, inl, inr, ◌⊎◌}
use Rattle.std.specs.Prelude.{int_lt, pos}
use Rattle.std.specs.Cmp.{first_so, second_so}
use Rattle.std.specs.List.{list_any}
use Rattle.std.proofs.lemmas.Bool.{and_cases, not-true, not-false}
use Rattle.std.proofs.lemmas.List.Folds.{list_any_at}
use Rattle.std.proofs.lemmas.List.Quantifiers.{position-Some}
use Rattle.std.proofs.lemmas.Option.{same_Some, slice_get_within, slice_get-get_or, get_or_from_slice_get}
use Rattle.run_admission.specs.Kept.{nobody}
use Rattle.run_admission.specs.declared.seat.Claim.{Claim}
use Rattle.run_admission.specs.declared.seat.Seat.TheVariants.{Gone}
use Rattle.run_admission.specs.declared.seat.Admitted.{Admitted}
use Rattle.run_admission.specs.declared.seat.Admitted.TheVariants.{Skip, Run}
use Rattle.run_admission.specs.InUse.{Admissions, Test, admitted, admitted_as, candidate_at, comes_next, fits_all}
use Rattle.run_admission.specs.InUse.{free_group_slot, free_slot, may_come, tests}
use Rattle.run_model.specs.Admission.{test_of}

-- the place of a test that is admitted is the first of one that comes next
pub next_place : (a : Admissions) (r : Admitted) → admitted a ≡ Some r → position (comes_next a) (tests a) ≡ Some
    (test_of r)
next_place a r e = by_place (position (comes_next a) (tests a)) refl e
  where
    by_kind : (k : ℕ) (claim : Claim) (matched fits : Bool) → claim.matched ≡ matched
        → admitted_as a (candidate_at k claim fits) ≡ Some r → k ≡ test_of r
    by_kind k claim false fits m e = let it : Skip k ≡ r = same_Some _ _ (rw m at e) in ap test_of it
    by_kind k claim true true m e =
        let it : Run k (free_slot a) (option_and_then (free_group_slot a) (slice_get a.claims k)) ≡ r =
        same_Some _ _ (rw m at e) in
        ap test_of it
    by_kind k claim true false m e = let never = rw m at e in cc

    by_claim : (k : ℕ) (c : Option Claim)
        → option_and_then (admitted_as a) (option_map (λ claim. candidate_at k claim (fits_all a claim)) c) ≡ Some r
        → k ≡ test_of r
    by_claim k None e = cc
    by_claim k (Some claim) e = by_kind k claim claim.matched (fits_all a claim) refl e

    by_place : (o : Option ℕ) → position (comes_next a) (tests a) ≡ o
        → option_and_then (admitted_as a) (option_and_then
        (λ test. option_map (λ claim. candidate_at test claim (fits_all a claim)) (slice_get a.claims test)) o) ≡ Some r
        → position (comes_next a) (tests a) ≡ Some (test_of r)
    by_place None place e = cc
    by_place (Some k) place e = place ∙ ap Some (by_claim k (slice_get a.claims k) e)

-- where none of a list passes, each fails
none_at : {X : Type 0} (f : X → Bool) (xs : List X) (j : ℕ) (x : X) → list_any f xs ≡ false → slice_get xs j ≡ Some x
    → f x ≡ false
none_at f xs j x none at = by_case (f x) refl
  where
    by_case : (b : Bool) → f x ≡ b → b ≡ false
    by_case false is = refl
    by_case true is =
        let some : list_any f xs ≡ true =
        list_any_at f xs j x (slice_get_within xs j x at) (ap f (get_or_from_slice_get xs j x x at) ∙ is) in
        let never : true ≡ false = sym some ∙ none in cc

-- the test at a place may come, and none does that has a greater priority, or the same and an earlier place
pub record IsFirst (a : Admissions) (k : ℕ) (t : Test) : Type 0 where
  pub at : slice_get (tests a) k ≡ Some t
  pub may : may_come a t ≡ true
  pub greater : (j : ℕ) (u : Test) → slice_get (tests a) j ≡ Some u → int_lt t.0.priority u.0.priority ≡ true
      → may_come a u ≡ false
  pub earlier : (j : ℕ) (u : Test) → slice_get (tests a) j ≡ Some u → u.0.priority ≡ t.0.priority → j < k
      → may_come a u ≡ false

pub first_at : (a : Admissions) (k : ℕ) → position (comes_next a) (tests a) ≡ Some k
    → IsFirst a k (get_or (tests a) k nobody)
first_at a k place = record {
  at = slice_get-get_or (tests a) k nobody found.0;
  may = first_so (may_come a t) _ found.1;
  greater = λ j u at more. by_greater u more
      (and_cases (may_come a u) _ (none_at (λ v. may_come a v && int_lt t.0.priority v.0.priority) (tests a) j u none
      at));
  earlier = λ j u at same before. by_earlier u same (and_cases (may_come a u) _
      (ap (comes_next a) (sym (get_or_from_slice_get (tests a) j u nobody at)) ∙ found.2 j before));
}
  where
    t : Test
    t = get_or (tests a) k nobody

    found : (k < length (tests a)) × (comes_next a t ≡ true)
        × ((j : ℕ) → j < k → comes_next a (get_or (tests a) j nobody) ≡ false)
    found = position-Some (comes_next a) (tests a) k nobody place

    none : list_any (λ v. may_come a v && int_lt t.0.priority v.0.priority) (tests a) ≡ false
    none = not-true _ (second_so (may_come a t) _ found.1)

    by_greater : (u : Test) → int_lt t.0.priority u.0.priority ≡ true
        → (may_come a u ≡ false) ⊎ (int_lt t.0.priority u.0.priority ≡ false) → may_come a u ≡ false
    by_greater u more (inl is) = is
    by_greater u more (inr is) = let never : true ≡ false = sym more ∙ is in cc

    by_earlier : (u : Test) → u.0.priority ≡ t.0.priority
        → (may_come a u ≡ false)
        ⊎ (not (list_any (λ v. may_come a v && int_lt u.0.priority v.0.priority) (tests a)) ≡ false)
        → may_come a u ≡ false
    by_earlier u same (inl is) = is
    by_earlier u same (inr is) =
        let some : list_any (λ v. may_come a v && int_lt u.0.priority v.0.priority) (tests a) ≡ true =
        not-false _ is in
        let never : false ≡ true = sym none
        ∙ ap (λ q. list_any (λ v. may_come a v && int_lt q v.0.priority) (tests a)) (sym same) ∙ some in cc

pub admitted_first : (a : Admissions) (r : Admitted) → admitted a ≡ Some r → (t : Test) × IsFirst a (test_of r) t
admitted_first a r e = (get_or (tests a) (test_of r) nobody, first_at a (test_of r) (next_place a r e))
