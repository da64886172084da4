-- Not all slots are held where a test waits: of all tests, and of those of its group.
use Rattle.std.proofs.Common.{◌≡◌, ℕ, zero, suc, ◌<◌, ◌≤◌, List, [], ◌∷◌, length, get_or, map, Bool, true, false, cond}
use Rattle.std.proofs.Common.{if◌then◌else◌, Option, Some, None, is_some, count_by, ap, ◌∙◌, arith}
use Rattle.std.specs.List.{zip}
use Rattle.std.proofs.lemmas.List.{length-map}
use Rattle.std.proofs.lemmas.List.Sums.{sum_by-cons}
use Rattle.run_admission.specs.declared.seat.Claim.{Claim}
use Rattle.run_admission.specs.declared.seat.Seat.{Seat}
use Rattle.run_admission.specs.declared.seat.Seat.TheVariants.{Waiting}
use Rattle.run_admission.specs.InUse.{slot_of, slot_in, is_of, seat_slot, seat_group_slot}
use Rattle.run_admission.specs.Kept.{nobody}
use Rattle.run_admission.proofs.ListLemmas.{length_zip}
use Rattle.run_admission.proofs.KeptLemmas.{count_lt}
use Rattle.run_admission.proofs.TestLemmas.{stood}

pub open_slot : (claims : List Claim) (seats : List Seat) (k : ℕ) → length claims ≡ length seats → k < length seats
    → get_or seats k Waiting ≡ Waiting → count_by is_some (map slot_of (zip claims seats)) < length seats
open_slot claims seats k same inside waits =
    let none : get_or (map slot_of (zip claims seats)) k None ≡ None =
    stood slot_of claims seats k same inside ∙ ap seat_slot waits in
    let many : length (map slot_of (zip claims seats)) ≡ length seats =
    length-map (zip claims seats) slot_of ∙ length_zip claims seats same in
    omega (arith, many, count_lt (map slot_of (zip claims seats)) k none (omega (arith, many, inside)))

-- a test holds a slot of its own group alone
held_of : (b : Bool) (o : Option ℕ) → cond {A = ℕ} (is_some (if b then o else None)) 1 0 ≤ cond b 1 0
held_of true None = omega arith
held_of true (Some n) = omega arith
held_of false o = omega arith

most_held : (g : ℕ) (claims : List Claim) (seats : List Seat)
    → count_by is_some (map (slot_in g) (zip claims seats)) ≤ count_by (is_of g) claims
most_held g [] seats = omega arith
most_held g (c ∷ cs) [] = omega arith
most_held g (c ∷ cs) (s ∷ ss) =
    omega (
      arith,
      held_of (is_of g c) (seat_group_slot s),
      most_held g cs ss,
      sum_by-cons (λ o. cond (is_some o) 1 0) (slot_in g (c, s)) (map (slot_in g) (zip cs ss)),
      sum_by-cons (λ c. cond (is_of g c) 1 0) c cs,
    )

pub open_in_group : (g : ℕ) (claims : List Claim) (seats : List Seat) (k : ℕ) → length claims ≡ length seats
    → k < length seats → is_of g (get_or claims k nobody.0) ≡ true → get_or seats k Waiting ≡ Waiting
    → count_by is_some (map (slot_in g) (zip claims seats)) < count_by (is_of g) claims
open_in_group g [] [] k same inside of waits = absurd (omega arith)
open_in_group g [] (s ∷ ss) k same inside of waits = absurd (omega arith)
open_in_group g (c ∷ cs) [] k same inside of waits = absurd (omega arith)
open_in_group g (c ∷ cs) (s ∷ ss) zero same inside of waits =
    let none : cond {A = ℕ} (is_some (slot_in g (c, s))) 1 0 ≡ 0 =
    ap (λ b. cond {A = ℕ} (is_some (if b then seat_group_slot s else None)) 1 0) of
    ∙ ap (λ s. cond {A = ℕ} (is_some (seat_group_slot s)) 1 0) waits in
    let one : cond {A = ℕ} (is_of g c) 1 0 ≡ 1 = ap (λ b. cond b 1 0) of in
    omega (
      arith,
      none,
      one,
      most_held g cs ss,
      sum_by-cons (λ o. cond (is_some o) 1 0) (slot_in g (c, s)) (map (slot_in g) (zip cs ss)),
      sum_by-cons (λ c. cond (is_of g c) 1 0) c cs,
    )
open_in_group g (c ∷ cs) (s ∷ ss) (suc k) same inside of waits =
    omega (
      arith,
      held_of (is_of g c) (seat_group_slot s),
      open_in_group g cs ss k (omega arith) (omega arith) of waits,
      sum_by-cons (λ o. cond (is_some o) 1 0) (slot_in g (c, s)) (map (slot_in g) (zip cs ss)),
      sum_by-cons (λ c. cond (is_of g c) 1 0) c cs,
    )
