-- What is kept gives the laws.
use Rattle.std.proofs.Common.{◌≡◌, ℕ, List, get_or, map, Option, Some, None, refl, ap, sym, ◌∙◌, arith}
use Rattle.std.proofs.Common.{slice_get, option_map, option_and_then, slice_index, sum_by}
use Rattle.std.specs.List.{zip}
use Rattle.std.proofs.lemmas.List.{length-map}
use Rattle.std.proofs.lemmas.Option.{same_Some, get_or_from_slice_get, slice_get-map}
use Rattle.run_admission.specs.declared.seat.Claim.{Claim}
use Rattle.run_admission.specs.declared.seat.Seat.{Seat}
use Rattle.run_admission.specs.InUse.{Test, slot_of, slot_in, taken_in, group_weight_in_use}
use Rattle.run_admission.specs.Kept.{Use, IsKept, IsWhole, seen}
use Rattle.run_admission.specs.Laws.{KeepsLimits, HasOwnSlots}
use Rattle.run_admission.proofs.WholeLemmas.{limit_at}
use Rattle.run_admission.proofs.RuleLemmas.{all_used, group_used, limit_is}

-- no limit is passed
pub keeps_limits : (start : ℕ) (whole : Use) (us : List Use) (claims : List Claim) (seats : List Seat)
    → IsWhole start whole us claims seats → KeepsLimits (seen whole us claims seats)
keeps_limits start whole us claims seats w = record {
  all = omega (arith, all_used whole (zip claims seats) w.all, w.all.within);
  groups = λ g h.
      let u = limit_at us g (omega (arith, h, length-map us (λ u. u.limit))) in
      let limit : slice_index (map (λ u. u.limit) us) g ≡ u.0.limit = limit_is us g u.0 u.1 in
      let kept = w.groups g u.0 u.1 in
      let used : group_weight_in_use (seen whole us claims seats) g ≡ u.0.used =
      ap (λ l. sum_by (taken_in g l) (zip claims seats)) limit ∙ group_used g u.0 (zip claims seats) kept in
      omega (arith, used, limit, kept.within);
}

-- where two tests hold one slot, they are one
own_slot : (u : Use) (ws : List ℕ) (slot : Test → Option ℕ) (ts : List Test) → IsKept u ws (map slot ts)
    → (j k n : ℕ) → option_and_then slot (slice_get ts j) ≡ Some n → option_and_then slot (slice_get ts k) ≡ Some n
    → j ≡ k
own_slot u ws slot ts kept j k n e f =
    same_Some j k (sym (kept.holds j n (stands ts j e)) ∙ kept.holds k n (stands ts k f))
  where
    stands : (ts : List Test) (i : ℕ) → option_and_then slot (slice_get ts i) ≡ Some n
        → get_or (map slot ts) i None ≡ Some n
    stands ts i e = by_place (slice_get ts i) refl e
      where
        by_place : (o : Option Test) → slice_get ts i ≡ o → option_and_then slot o ≡ Some n
            → get_or (map slot ts) i None ≡ Some n
        by_place None at e = cc
        by_place (Some t) at e =
            get_or_from_slice_get (map slot ts) i (slot t) None (slice_get-map slot ts i ∙ ap (option_map slot) at) ∙ e

-- two tests in use hold different slots
pub own_slots : (start : ℕ) (whole : Use) (us : List Use) (claims : List Claim) (seats : List Seat)
    → IsWhole start whole us claims seats → HasOwnSlots (seen whole us claims seats)
own_slots start whole us claims seats w = record {
  all = own_slot whole _ slot_of (zip claims seats) w.all;
  groups = λ g j k n h.
      let u = limit_at us g (omega (arith, h, length-map us (λ u. u.limit))) in
      own_slot u.0 _ (slot_in g) (zip claims seats) (w.groups g u.0 u.1) j k n;
}
