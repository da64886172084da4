-- The first test of all lines, and the lines as tests come and go.
use Rattle.std.proofs.Common.{◌≡◌, ◌≢◌, ℕ, zero, suc, ◌+◌, ◌<◌, ◌≤◌, ◌==◌, ◌^◌, List, [], ◌∷◌, length, get_or, set, map}
use Rattle.std.proofs.Common.{Bool, true, false, Option, Some, None, position, slice_get, refl, ap, sym, subst, ◌∙◌}
use Rattle.std.proofs.Common.{arith}
use Rattle.std.proofs.Common.{inl, inr, get_or-set_other}
use Rattle.std.proofs.Math.ListN.{length-set}
use Rattle.std.specs.List.{zip}
use Rattle.std.specs.Option.{option_map_or}
use Rattle.std.proofs.lemmas.Grind.{get_or-set_at}
use Rattle.std.proofs.lemmas.List.{length-map}
use Rattle.run_admission.specs.declared.seat.Claim.{Claim}
use Rattle.run_admission.specs.declared.seat.Seat.{Seat}
use Rattle.run_admission.specs.declared.seat.Seat.TheVariants.{Gone}
use Rattle.run_admission.specs.Kept.{Use, nobody, comes, take_of, take_in, give_back, give_in}
use Rattle.run_admission.specs.Least.{IsLeast, none}
use Rattle.run_admission.specs.Lined.{Queue, Queues, IsLined, IsHead, IsQueued, line_of}
use Rattle.run_admission.proofs.ListLemmas.{found_at, get_or_zip, length_zip}
use Rattle.run_admission.proofs.LineLemmas.{line_inside, head_stays}

-- each test's group is one of the groups
abbrev pub AreThere : List Use → List Claim → Type 0
AreThere us claims = (k g : ℕ) → (get_or claims k nobody.0).group ≡ Some g → g < length us

-- no test that may come stands before the least of the firsts
not_before : (us : List Use) (claims : List Claim) (seats : List Seat) (q : Queues) (r k : ℕ)
    → IsQueued us claims seats q → length claims ≡ length seats → AreThere us claims
    → IsLeast q.firsts 0 (length q.lines) r → k < length seats
    → comes us (get_or (zip claims seats) k nobody) ≡ true → r ≤ k
not_before us claims seats q r k queued paired there least inside e =
    let limits = map (λ (u : Use). u.limit) us in
    let line = line_of limits (get_or claims k nobody.0) in
    let known : line < length limits + 1 =
    line_inside limits (get_or claims k nobody.0) (λ g of. omega
    (arith, there k g of, length-map us (λ (u : Use). u.limit))) in
    let low : line < length q.lines = omega (arith, known, queued.lined.count) in
    let may : comes us (get_or claims k nobody.0, get_or seats k Gone) ≡ true =
    sym (ap (comes us) (get_or_zip claims seats k nobody.0 Gone nobody (omega (arith, paired)) inside)) ∙ e in
    let first : get_or q.firsts line 0 ≤ k = (queued.heads line low).before k (omega (arith, paired)) refl may in
    omega (arith, first, least.below line (omega arith) low)

-- where the least of the firsts is none, no test may come
pub queued_none : (us : List Use) (claims : List Claim) (seats : List Seat) (q : Queues) (r : ℕ)
    → IsQueued us claims seats q → length claims ≡ length seats → length seats < 2 ^ 32 → AreThere us claims
    → IsLeast q.firsts 0 (length q.lines) r → r ≡ none → (k : ℕ) → k < length seats
    → comes us (get_or (zip claims seats) k nobody) ≡ false
queued_none us claims seats q r queued paired few there least is k inside =
    by_case (comes us (get_or (zip claims seats) k nobody)) refl
  where
    by_case : (b : Bool) → comes us (get_or (zip claims seats) k nobody) ≡ b → b ≡ false
    by_case true e =
        absurd (omega (arith, not_before us claims seats q r k queued paired there least inside e, is, few))
    by_case false e = refl

-- else it is the first test that may come
pub queued_some : (us : List Use) (claims : List Claim) (seats : List Seat) (q : Queues) (r : ℕ)
    → IsQueued us claims seats q → length claims ≡ length seats → AreThere us claims
    → IsLeast q.firsts 0 (length q.lines) r → r ≢ none → position (comes us) (zip claims seats) ≡ Some r
queued_some us claims seats q r queued paired there least some =
    elim least.there [
      | inl e ↦ absurd (some e)
      | inr s ↦ elim (queued.heads s.0 s.2).there [ inl e ↦ absurd (some (sym s.3 ∙ e)) | inr t ↦ at s.0 s.3 t.0 t.2 ]
    ]
  where
    by_case : (k : ℕ) → k < r → k < length seats → (b : Bool) → comes us (get_or (zip claims seats) k nobody) ≡ b
        → b ≡ false
    by_case k low inside true e =
        absurd (omega (arith, not_before us claims seats q r k queued paired there least inside e))
    by_case k low inside false e = refl

    at : (l : ℕ) → get_or q.firsts l 0 ≡ r → get_or q.firsts l 0 < length claims
        → comes us (get_or claims (get_or q.firsts l 0) nobody.0, get_or seats (get_or q.firsts l 0) Gone) ≡ true
        → position (comes us) (zip claims seats) ≡ Some r
    at l is inside may =
        let here : r < length seats = omega (arith, is, inside, paired) in
        found_at (comes us) (zip claims seats) r nobody (omega (arith, here, length_zip claims seats paired))
        (λ k h. by_case k h (omega (arith, here)) (comes us (get_or (zip claims seats) k nobody)) refl)
        (ap (comes us) (get_or_zip claims seats r nobody.0 Gone nobody (omega (arith, here, paired)) here)
        ∙ ap (λ r. comes us (get_or claims r nobody.0, get_or seats r Gone)) (sym is) ∙ may)

-- after the first of one line was found anew, and no test of another line may come that could not, or the reverse
pub queued_after : (us afters : List Use) (claims : List Claim) (seats seated : List Seat) (q : Queues)
    (lines : List Queue) (line first : ℕ) → IsQueued us claims seats q
    → map (λ u. u.limit) afters ≡ map (λ u. u.limit) us
    → IsLined (map (λ u. u.limit) us) claims seated lines q.places → line < length lines
    → ((k : ℕ) → k < length claims → line_of (map (λ u. u.limit) us) (get_or claims k nobody.0) ≢ line
    → comes afters (get_or claims k nobody.0, get_or seated k Gone)
    ≡ comes us (get_or claims k nobody.0, get_or seats k Gone))
    → IsHead afters (map (λ u. u.limit) us) claims seated line first
    → IsQueued afters claims seated (record { lines = lines; places = q.places; firsts = set q.firsts line first })
queued_after us afters claims seats seated q lines line first queued limits lined inside same head = record {
  lined = subst (λ ls. IsLined ls claims seated lines q.places) (sym limits) lined;
  all = omega (arith, length-set q.firsts line first, queued.all, queued.lined.count, lined.count);
  heads = λ l h. subst (λ ls. IsHead afters ls claims seated l (get_or (set q.firsts line first) l 0)) (sym limits)
      (by_line l (omega (arith, h, queued.lined.count, lined.count)) (l == line) refl);
}
  where
    by_line : (l : ℕ) → l < length q.lines → (b : Bool) → (l == line) ≡ b
        → IsHead afters (map (λ u. u.limit) us) claims seated l (get_or (set q.firsts line first) l 0)
    by_line l h true e =
        let is : l ≡ line = grind arith in
        subst (IsHead afters (map (λ u. u.limit) us) claims seated l)
        (sym (get_or-set_at q.firsts line l first 0 is (omega (arith, queued.all, queued.lined.count, lined.count))))
        (subst (λ l. IsHead afters (map (λ u. u.limit) us) claims seated l first) (sym is) head)
    by_line l h false e =
        let apart : l ≢ line = grind arith in
        subst (IsHead afters (map (λ u. u.limit) us) claims seated l)
        (sym (get_or-set_other q.firsts line l first 0 apart))
        (head_stays us afters (map (λ u. u.limit) us) claims seats seated l (get_or q.firsts l 0)
        (λ k k_in own. same k k_in (λ is. apart (sym own ∙ is))) (queued.heads l h))

-- another group's limit stays
get_set : {X : Type 0} (xs : List X) (i j : ℕ) (y : X) → j ≢ i → slice_get (set xs i y) j ≡ slice_get xs j
get_set [] i j y apart = refl
get_set (x ∷ xs) zero zero y apart = absurd (apart refl)
get_set (x ∷ xs) zero (suc j) y apart = refl
get_set (x ∷ xs) (suc i) zero y apart = refl
get_set (x ∷ xs) (suc i) (suc j) y apart = get_set xs i j y (λ e. apart (ap (λ n. suc n) e))

pub take_other : (us : List Use) (o : Option ℕ) (k w g : ℕ) → ((h : ℕ) → o ≡ Some h → g ≢ h)
    → slice_get (take_in us o k w) g ≡ slice_get us g
take_other us None k w g apart = refl
take_other us (Some h) k w g apart = by_place (slice_get us h)
  where
    by_place : (o : Option Use) → slice_get (option_map_or (λ u. set us h (take_of u k w)) o us) g ≡ slice_get us g
    by_place None = refl
    by_place (Some u) = get_set us h g (take_of u k w) (apart h refl)

pub give_other : (us : List Use) (o m : Option ℕ) (w g : ℕ) → ((h : ℕ) → o ≡ Some h → g ≢ h)
    → slice_get (give_in us o m w) g ≡ slice_get us g
give_other us None m w g apart = refl
give_other us (Some h) None w g apart = refl
give_other us (Some h) (Some n) w g apart = by_place (slice_get us h)
  where
    by_place : (o : Option Use) → slice_get (option_map_or (λ u. set us h (give_back u n w)) o us) g ≡ slice_get us g
    by_place None = refl
    by_place (Some u) = get_set us h g (give_back u n w) (apart h refl)
