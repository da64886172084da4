-- What is admitted: a test that waits.
use Rattle.std.proofs.Common.{◌≡◌, ℕ, ◌<◌, length, get_or, Bool, true, false, Option, Some, None, option_and_then}
use Rattle.std.proofs.Common.{option_map, slice_get, position, min, refl, ap, sym, subst, ◌∙◌, arith}
use Rattle.std.proofs.lemmas.Option.{same_Some}
use Rattle.std.specs.Prelude.{⊤, pos}
use Rattle.std.specs.Cmp.{first_so}
use Rattle.std.proofs.lemmas.List.Quantifiers.{position-Some}
use Rattle.std.proofs.lemmas.Slice.Zip.{length-zip, get_or-zip}
use Rattle.run_admission.specs.Kept.{nobody}
use Rattle.run_admission.specs.declared.seat.Claim.{Claim}
use Rattle.run_admission.specs.declared.seat.Seat.TheVariants.{Gone}
use Rattle.run_admission.specs.declared.seat.Admitted.{Admitted}
use Rattle.run_admission.specs.declared.seat.Admitted.TheVariants.{Skip, Run}
use Rattle.run_admission.specs.InUse.{Admissions, Test, tests, is_waiting, comes_next, fits_all, candidate_at}
use Rattle.run_admission.specs.InUse.{admitted_as, admitted, free_slot, free_group_slot}
use Rattle.run_model.specs.Admission.{test_of}

-- whether a test is admitted to run
abbrev pub runs : Admitted → Bool
runs (Skip test) = false
runs (Run test global slot) = true

-- a test that is admitted waited until then, and matches where it is to run
pub record IsAdmitted (a : Admissions) (test : ℕ) (to_run : Bool) : Type 0 where
  pub claim : Claim
  pub claimed : slice_get a.claims test ≡ Some claim
  pub within : test < length a.seats
  pub waits : is_waiting (get_or a.seats test Gone) ≡ true
  pub matched : claim.matched ≡ to_run

-- a test that is admitted to run gets the free slots
abbrev pub HasFreeSlots : Admissions → Admitted → Type 0
HasFreeSlots a (Skip test) = ⊤
HasFreeSlots a (Run test global slot) =
    (global ≡ free_slot a) × (slot ≡ option_and_then (free_group_slot a) (slice_get a.claims test))

-- the first test that may come next waits
came : (a : Admissions) (k : ℕ) → position (comes_next a) (tests a) ≡ Some k
    → (k < length a.seats) × (is_waiting (get_or a.seats k Gone) ≡ true)
came a k place =
    let at = position-Some (comes_next a) (tests a) k nobody place in
    let both : k < min (length a.claims) (length a.seats) = omega (arith, at.0, length-zip a.claims a.seats) in
    let is = get_or-zip a.claims a.seats k nobody (grind arith) (grind arith) in (
      grind arith,
      ap (λ (t : Test). is_waiting t.1) (sym is) ∙ first_so _ _ (first_so _ _ at.1),
    )

pub admitted_is : (a : Admissions) (r : Admitted) → admitted a ≡ Some r
    → IsAdmitted a (test_of r) (runs r) × HasFreeSlots a r
admitted_is a r e = by_place (position (comes_next a) (tests a)) refl e
  where
    by_kind : (k : ℕ) (claim : Claim) (matched fits : Bool) → slice_get a.claims k ≡ Some claim
        → position (comes_next a) (tests a) ≡ Some k → claim.matched ≡ matched → fits_all a claim ≡ fits
        → admitted_as a (candidate_at k claim fits) ≡ Some r → IsAdmitted a (test_of r) (runs r) × HasFreeSlots a r
    by_kind k claim false fits at place m f e =
        let it : Skip k ≡ r = same_Some _ _ (rw m at e) in
        let first = came a k place in
        subst (λ r. IsAdmitted a (test_of r) (runs r) × HasFreeSlots a r) it
        (record { claim = claim; claimed = at; within = first.0; waits = first.1; matched = m }, tt)
    by_kind k claim true true at place m f e =
        let first = came a k place in
        let it : Run k (free_slot a) (option_and_then (free_group_slot a) (slice_get a.claims k)) ≡ r =
        same_Some _ _ (rw m at e) in
        subst (λ r. IsAdmitted a (test_of r) (runs r) × HasFreeSlots a r) it
        (record { claim = claim; claimed = at; within = first.0; waits = first.1; matched = m }, (refl, refl))
    by_kind k claim true false at place m f e = let never = rw m at e in cc

    by_claim : (k : ℕ) (c : Option Claim) → slice_get a.claims k ≡ c → position (comes_next a) (tests a) ≡ Some k
        → option_and_then (admitted_as a) (option_map (λ claim. candidate_at k claim (fits_all a claim)) c) ≡ Some r
        → IsAdmitted a (test_of r) (runs r) × HasFreeSlots a r
    by_claim k None at place e = cc
    by_claim k (Some claim) at place e = by_kind k claim claim.matched (fits_all a claim) at place refl refl e

    by_place : (o : Option ℕ) → position (comes_next a) (tests a) ≡ o
        → option_and_then (admitted_as a) (option_and_then
        (λ test. option_map (λ claim. candidate_at test claim (fits_all a claim)) (slice_get a.claims test)) o) ≡ Some r
        → IsAdmitted a (test_of r) (runs r) × HasFreeSlots a r
    by_place None place e = cc
    by_place (Some k) place e = by_claim k (slice_get a.claims k) refl place e
