-- The lines, as a test is released.
use Rattle.std.proofs.Common.{◌≡◌, ◌≢◌, ℕ, ◌<◌, ◌==◌, ◌&&◌, ◌||◌, List, length, get_or, set, map}
use Rattle.std.proofs.Common.{Bool, true}
use Rattle.std.proofs.Common.{Some}
use Rattle.std.proofs.Common.{false, not, Option, None, slice_get, refl, ap, sym, subst}
use Rattle.std.proofs.Common.{◌∙◌, arith, get_or-set_other}
use Rattle.std.proofs.lemmas.Grind.{get_or-set_at}
use Rattle.std.proofs.lemmas.List.{length-map}
use Rattle.run_admission.specs.declared.seat.Claim.{Claim}
use Rattle.run_admission.specs.declared.seat.Seat.{Seat}
use Rattle.run_admission.specs.declared.seat.Seat.TheVariants.{Waiting, Gone}
use Rattle.run_admission.specs.InUse.{is_waiting}
use Rattle.run_admission.specs.Kept.{Use, IsWhole, nobody, comes, fits_in}
use Rattle.run_admission.specs.Kept.{give_back, give_in}
use Rattle.run_admission.specs.Lined.{Queues, IsFirst, IsLined, IsQueued, IsReady, empty}
use Rattle.run_admission.specs.Lined.{line_of, room_of}
use Rattle.run_admission.proofs.LineLemmas.{AreWithin, comes_other, head_is, head_stays, lined_moves}
use Rattle.run_admission.specs.Ordered.{at_places}
use Rattle.run_admission.proofs.ListLemmas.{get_default}
use Rattle.run_admission.proofs.NextLemmas.{IsPlace, get_at_places, length_at_places}
use Rattle.run_admission.proofs.QueueLemmas.{AreThere, queued_after, give_other}
use Rattle.run_admission.proofs.WholeLemmas.{CanLeave}
use Rattle.run_admission.proofs.RuleLemmas.{release_kept, limits_give}
use Rattle.run_admission.proofs.ReadyLemmas.{same_many, within_of, queue_there, queue_paired, queue_set}

-- of a test that doesn't wait, and moves to another seat in which it doesn't, and of all others
waits_same : (seats : List Seat) (t k : ℕ) → t < length seats → is_waiting (get_or seats t Gone) ≡ false
    → is_waiting (get_or (set seats t Gone) k Gone) ≡ is_waiting (get_or seats k Gone)
waits_same seats t k inside was = by_place (k == t) refl
  where
    by_place : (b : Bool) → (k == t) ≡ b
        → is_waiting (get_or (set seats t Gone) k Gone) ≡ is_waiting (get_or seats k Gone)
    by_place true e =
        let is : k ≡ t = grind arith in
        ap is_waiting (get_or-set_at seats t k Gone Gone is inside) ∙ sym was
        ∙ ap (λ k. is_waiting (get_or seats k Gone)) (sym is)
    by_place false e =
        let apart : k ≢ t = grind arith in ap is_waiting (get_or-set_other seats t k Gone Gone apart)

-- a test of a group is released
pub queued_release : (us afters : List Use) (claims : List Claim) (seats : List Seat) (q : Queues)
    (t line room first : ℕ) → length claims ≡ length seats → AreThere us claims → IsQueued us claims seats q
    → map (λ u. u.limit) afters ≡ map (λ u. u.limit) us → AreWithin afters → t < length claims
    → is_waiting (get_or seats t Gone) ≡ false → line < length q.lines
    → ((g : ℕ) → g ≢ line → slice_get afters g ≡ slice_get us g)
    → room ≡ room_of afters line → IsFirst (get_or q.lines line empty) room first
    → IsQueued afters claims (set seats t Gone)
    (record { lines = q.lines; places = q.places; firsts = set q.firsts line first })
queued_release us afters claims seats q t line room first paired there queued limits within inside
    was low others left found =
    queued_after us afters claims seats (set seats t Gone) q q.lines line first queued limits lined low same
    (head_is afters (map (λ u. u.limit) us) claims (set seats t Gone) q.lines q.places line room first limits within
    (λ k g e. omega (arith, there k g e, same_many us afters limits)) lined low left found)
  where
    still : (k : ℕ) → is_waiting (get_or (set seats t Gone) k Gone) ≡ is_waiting (get_or seats k Gone)
    still k = waits_same seats t k (omega arith) was

    lined : IsLined (map (λ u. u.limit) us) claims (set seats t Gone) q.lines q.places
    lined = lined_moves (map (λ u. u.limit) us) claims seats (set seats t Gone) q.lines q.places still queued.lined

    same : (k : ℕ) → k < length claims → line_of (map (λ u. u.limit) us) (get_or claims k nobody.0) ≢ line
        → comes afters (get_or claims k nobody.0, get_or (set seats t Gone) k Gone)
        ≡ comes us (get_or claims k nobody.0, get_or seats k Gone)
    same k k_in apart =
        let c = get_or claims k nobody.0 in
        ap (λ b. b && (not c.matched || fits_in afters c)) (still k)
        ∙ comes_other us afters (map (λ u. u.limit) us) line c (get_or seats k Gone) others apart

-- a test of no group is released
queued_stays : (us : List Use) (claims : List Claim) (seats : List Seat) (q : Queues) (t : ℕ)
    → length claims ≡ length seats → IsQueued us claims seats q → t < length claims
    → is_waiting (get_or seats t Gone) ≡ false → IsQueued us claims (set seats t Gone) q
queued_stays us claims seats q t paired queued inside was = record {
  lined = lined_moves (map (λ u. u.limit) us) claims seats (set seats t Gone) q.lines q.places still queued.lined;
  all = queued.all;
  heads = λ l h. head_stays us us (map (λ u. u.limit) us) claims seats (set seats t Gone) l (get_or q.firsts l 0)
      (λ k k_in own. ap (λ b. b && (not (get_or claims k nobody.0).matched || fits_in us (get_or claims k nobody.0)))
      (still k))
      (queued.heads l h);
}
  where
    still : (k : ℕ) → is_waiting (get_or (set seats t Gone) k Gone) ≡ is_waiting (get_or seats k Gone)
    still k = waits_same seats t k (omega arith) was

-- a test of a group is released: its line is looked at anew
pub release_ready : (waiting : ℕ) (whole after_whole : Use) (us afters : List Use) (q after : Queues)
    (order : List ℕ) (claims : List Claim) (seats : List Seat) (t n line room : ℕ) (m : Option ℕ) (claim : Claim)
    → IsReady waiting whole us q order claims seats → CanLeave whole us claims seats t n m
    → claim ≡ get_or claims t nobody.0 → after_whole ≡ give_back whole n claim.weight
    → afters ≡ give_in us claim.group m claim.weight → line < length q.lines
    → ((h : ℕ) → claim.group ≡ Some h → line ≡ h)
    → room ≡ room_of afters line
    → (first : ℕ) × IsFirst (get_or q.lines line empty) room first
    × (after ≡ record q { firsts = set q.firsts line first })
    → IsReady waiting after_whole afters after order claims (set seats t Gone)
release_ready waiting whole after_whole us afters q after order claims seats t n line room m claim w can read all parts
    low own left found =
    record {
      kept = kept;
      ordered = w.ordered;
      queued = subst (IsQueued afters (at_places nobody.0 claims order) (at_places Gone (set seats t Gone) order))
          (sym found.2)
          (subst (λ ss. IsQueued afters (at_places nobody.0 claims order) ss
          (record { lines = q.lines; places = q.places; firsts = set q.firsts line found.0 }))
          (sym (queue_set claims seats order r t Gone w.kept.paired w.ordered at))
          (queued_release us afters (at_places nobody.0 claims order) (at_places Gone seats order) q r line room found.0
          (queue_paired claims seats order) (queue_there us claims order w.ordered w.kept.members) w.queued
          (ap (map (λ u. u.limit)) parts ∙ limits_give us claim.group m claim.weight)
          (within_of waiting after_whole afters claims (set seats t Gone) kept)
          (omega (arith, at.inside, length_at_places nobody.0 claims order))
          (ap is_waiting (get_at_places Gone seats order r Gone at.inside ∙ ap (λ k. get_or seats k Gone) at.is
          ∙ get_default seats t Gone Waiting can.inside ∙ can.used)) low
          (λ g apart. ap (λ l. slice_get l g) parts
          ∙ give_other us claim.group m claim.weight g (λ h e f. apart (f ∙ sym (own h e))))
          left found.1));
    }
  where
    kept : IsWhole waiting after_whole afters claims (set seats t Gone)
    kept = release_kept waiting whole after_whole us afters claims seats t n m claim w.kept can read all parts

    place : (r : ℕ) × (r < length order) × (get_or order r 0 ≡ t)
    place = w.ordered.placed t (omega (arith, can.inside, w.kept.paired))

    r : ℕ
    r = place.0

    at : IsPlace order place.0 t
    at = record { inside = place.1; is = place.2 }

-- the line of a group of a test is one of the lines
pub line_low : (waiting : ℕ) (whole : Use) (us : List Use) (q : Queues) (order : List ℕ) (claims : List Claim)
    (seats : List Seat) (t line : ℕ) (claim : Claim) → IsReady waiting whole us q order claims seats
    → claim ≡ get_or claims t nobody.0 → claim.group ≡ Some line → line < length q.lines
line_low waiting whole us q order claims seats t line claim w read of =
    omega (
      arith,
      w.kept.members t line (ap (λ (c : Claim). c.group) (sym read) ∙ of),
      w.queued.lined.count,
      length-map us (λ (u : Use). u.limit),
    )

-- a test of no group is released: the lines stay
pub release_idle : (waiting : ℕ) (whole after_whole : Use) (us afters : List Use) (q : Queues) (order : List ℕ)
    (claims : List Claim) (seats : List Seat) (t n : ℕ) (m : Option ℕ) (claim : Claim)
    → IsReady waiting whole us q order claims seats → CanLeave whole us claims seats t n m
    → claim ≡ get_or claims t nobody.0 → after_whole ≡ give_back whole n claim.weight
    → afters ≡ give_in us claim.group m claim.weight → claim.group ≡ None
    → IsReady waiting after_whole afters q order claims (set seats t Gone)
release_idle waiting whole after_whole us afters q order claims seats t n m claim w can read all parts none = record {
  kept = release_kept waiting whole after_whole us afters claims seats t n m claim w.kept can read all parts;
  ordered = w.ordered;
  queued = subst (λ gs. IsQueued gs (at_places nobody.0 claims order) (at_places Gone (set seats t Gone) order) q)
      (sym (parts ∙ ap (λ o. give_in us o m claim.weight) none))
      (subst (λ ss. IsQueued us (at_places nobody.0 claims order) ss q)
      (sym (queue_set claims seats order place.0 t Gone w.kept.paired w.ordered at))
      (queued_stays us (at_places nobody.0 claims order) (at_places Gone seats order) q place.0
      (queue_paired claims seats order) w.queued (omega (arith, at.inside, length_at_places nobody.0 claims order))
      (ap is_waiting (get_at_places Gone seats order place.0 Gone at.inside ∙ ap (λ k. get_or seats k Gone) at.is
      ∙ get_default seats t Gone Waiting can.inside ∙ can.used))));
}
  where
    place : (r : ℕ) × (r < length order) × (get_or order r 0 ≡ t)
    place = w.ordered.placed t (omega (arith, can.inside, w.kept.paired))

    at : IsPlace order place.0 t
    at = record { inside = place.1; is = place.2 }
