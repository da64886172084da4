-- The first test of all lines is the candidate.
use Rattle.std.proofs.Common.{◌≡◌, ◌≢◌, ℕ, ◌<◌, List, length, get_or, Bool, true, false, if◌then◌else◌, Some, None}
use Rattle.std.proofs.Common.{nat_eq, position, refl, ap, sym, ◌∙◌, arith}
use Rattle.std.specs.List.{zip}
use Rattle.std.proofs.lemmas.Option.{same_Some, slice_get-get_or}
use Rattle.std.proofs.lemmas.List.Quantifiers.{position-Some}
use Rattle.run_admission.specs.declared.seat.Candidate.{Candidate}
use Rattle.run_admission.specs.declared.seat.Candidate.TheVariants.{Skip, Fits, Blocked}
use Rattle.run_admission.specs.declared.seat.Claim.{Claim}
use Rattle.run_admission.specs.declared.seat.Seat.{Seat}
use Rattle.run_admission.specs.declared.seat.Seat.TheVariants.{Gone}
use Rattle.run_admission.specs.InUse.{candidate, candidate_at, comes_next, fits_beside}
use Rattle.run_admission.specs.Kept.{Use, comes, nobody, seen}
use Rattle.run_admission.specs.Least.{IsLeast, none}
use Rattle.run_admission.specs.Lined.{IsReady, Queues}
use Rattle.run_admission.specs.Ordered.{at_places}
use Rattle.run_admission.proofs.ListLemmas.{length_zip}
use Rattle.run_admission.proofs.NextLemmas.{IsPlace, length_at_places, next_none, next_some}
use Rattle.run_admission.proofs.QueueLemmas.{queued_none, queued_some}
use Rattle.run_admission.proofs.ReadyLemmas.{queue_paired, queue_there}
use Rattle.run_admission.proofs.RuleLemmas.{candidate_is, no_candidate}

-- the test of a candidate
abbrev pub named : Candidate → ℕ
named (Skip test) = test
named (Fits test) = test
named (Blocked test) = test

named_at : (k : ℕ) (claim : Claim) (fits : Bool) → named (candidate_at k claim fits) ≡ k
named_at k claim fits = by_kind claim.matched fits
  where
    by_kind : (m b : Bool) → named (if m then (if b then Fits k else Blocked k) else Skip k) ≡ k
    by_kind true true = refl
    by_kind true false = refl
    by_kind false b = refl

module _ (waiting : ℕ) (whole : Use) (us : List Use) (q : Queues) (order : List ℕ) (claims : List Claim)
    (seats : List Seat) (r : ℕ) (w : IsReady waiting whole us q order claims seats)
    (least : IsLeast q.firsts 0 (length q.lines) r) where
  -- where there is none, there is no candidate
  pub first_none : r ≡ none → candidate (seen whole us claims seats) ≡ None
  first_none e =
      no_candidate waiting whole us claims seats w.kept
      (next_none waiting whole us claims seats order w.kept w.ordered
      (λ p inside. queued_none us (at_places nobody.0 claims order) (at_places Gone seats order) q r w.queued
      (queue_paired claims seats order)
      (omega (arith, w.kept.few, w.kept.paired, w.ordered.all, length_at_places Gone seats order))
      (queue_there us claims order w.ordered w.kept.members) least e p
      (omega (arith, inside, length_at_places Gone seats order))))

  found : r ≢ none
      → position (comes us) (zip (at_places nobody.0 claims order) (at_places Gone seats order)) ≡ Some r
  found some =
      queued_some us (at_places nobody.0 claims order) (at_places Gone seats order) q r w.queued
      (queue_paired claims seats order) (queue_there us claims order w.ordered w.kept.members) least some

  pub first_inside : r ≢ none → r < length order
  first_inside some =
      omega (
        arith,
        (position-Some (comes us) (zip (at_places nobody.0 claims order) (at_places Gone seats order)) r nobody
            (found some)).0,
        length_zip (at_places nobody.0 claims order) (at_places Gone seats order) (queue_paired claims seats order),
        length_at_places Gone seats order,
      )

  -- else it comes next
  pub first_next : r ≢ none
      → position (comes_next (seen whole us claims seats)) (zip claims seats) ≡ Some (get_or order r 0)
  first_next some = next_some waiting whole us claims seats order w.kept w.ordered r (found some)

  -- and is the candidate
  pub first_is : (c : Candidate) → candidate (seen whole us claims seats) ≡ Some c → IsPlace order r (named c)
  first_is c is = by_place (nat_eq r none) refl
    where
      at : r ≢ none → IsPlace order r (named c)
      at some =
          let k : ℕ = get_or order r 0 in
          let claim : Claim = get_or claims k nobody.0 in
          let low : k < length claims = w.ordered.known r (first_inside some) in
          let same : c ≡ candidate_at k claim (fits_beside whole.used whole.limit claim.weight) =
          same_Some c _ (sym is ∙ candidate_is waiting whole us claims seats k claim w.kept (first_next some)
          (slice_get-get_or claims k nobody.0 low)) in
          record {
            inside = first_inside some;
            is = sym (ap named same ∙ named_at k claim (fits_beside whole.used whole.limit claim.weight));
          }

      by_place : (b : Bool) → nat_eq r none ≡ b → IsPlace order r (named c)
      by_place true e = let bad : None ≡ Some c = sym (first_none (grind (arith, e))) ∙ is in cc
      by_place false e = at (grind (arith, e))
