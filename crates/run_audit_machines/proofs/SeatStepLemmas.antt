-- What one event makes of the seats: it changes that of the test alone that it tells started or finished.
use Rattle.std.specs.Prelude.{slice_get}
use Rattle.std.proofs.Common.{◌≡◌, ◌∙◌, ℕ, zero, suc, ◌+◌, List, [], ◌∷◌, map, set, fold, sum_by, cond, Option, Some}
use Rattle.std.proofs.Common.{false, is_some, if◌then◌else◌, refl, sym, ap, ap₂, true≢false, arith}
use Rattle.std.proofs.Common.{add-zero}
use Rattle.std.specs.List.{list_any}
use Rattle.std.proofs.lemmas.Bool.{or_parts}
use Rattle.std.proofs.lemmas.Option.{same_Some}
use Rattle.run_events.specs.declared.plan.TestInstanceId.{TestInstanceId}
use Rattle.run_events.specs.declared.plan.TestSlotAssignment.{TestSlotAssignment}
use Rattle.run_model.specs.Reruns.{is_one_test}
use Rattle.run_audit_model.specs.SeenLimits.{is_seen_finish, is_seen_start, later_slot}
use Rattle.run_audit_model.specs.declared.audit_event.AuditEvent.{AuditEvent}
use Rattle.run_audit_model.specs.declared.audit_event.AuditEvent.TheVariants as seen
use Rattle.run_audit_machines.specs.Accounts.{IsOnlyAt}
use Rattle.run_audit_machines.specs.Limits.{Seat, Seated, seat_after, seated_after}

later_kept : (id : TestInstanceId) (e : AuditEvent) (slots : Option TestSlotAssignment)
    → is_seen_start id e ≡ false → later_slot id e slots ≡ slots
later_kept id (seen.TestStarted own slot) slots other = ap (λ b. if b then Some slot else slots) other
later_kept id e slots other = refl

-- of another test
pub seat_kept : (id : TestInstanceId) (seat : Seat) (e : AuditEvent) → is_seen_start id e ≡ false
    → is_seen_finish id e ≡ false → seat_after id seat e ≡ seat
seat_kept id seat e no_start no_finish =
    let started = ap (λ b. seat.started + cond b 1 0) no_start ∙ add-zero seat.started in
    let finished = ap (λ b. seat.finished + cond b 1 0) no_finish ∙ add-zero seat.finished in
    ap₂ (λ n m. record { started = n; finished = m; slots = later_slot id e seat.slots }) started finished
    ∙ ap (λ s. record { started = seat.started; finished = seat.finished; slots = s })
    (later_kept id e seat.slots no_start)

-- an event tells no start and no finish of a test that isn't this one
abbrev pub TellsOnly : TestInstanceId → AuditEvent → Type 0
TellsOnly own e = (id : TestInstanceId) → is_one_test own id ≡ false
    → (is_seen_start id e ≡ false) × (is_seen_finish id e ≡ false)

others_kept : (own : TestInstanceId) (e : AuditEvent) → TellsOnly own e → (seats : List Seated)
    → list_any (is_one_test own) (map (λ s. s.0.id) seats) ≡ false → map (seated_after e) seats ≡ seats
others_kept own e only [] none = refl
others_kept own e only (s ∷ seats) none =
    let parts = or_parts (is_one_test own s.0.id) (list_any (is_one_test own) (map (λ s. s.0.id) seats)) none in
    let tells = only s.0.id parts.0 in
    ap₂ (λ seat rest. (s.0, seat) ∷ rest) (seat_kept s.0.id s.1 e tells.0 tells.1)
    (others_kept own e only seats parts.1)

-- so the seats after it are those before it, with one set
pub seats_set : (own : TestInstanceId) (e : AuditEvent) → TellsOnly own e → (seats : List Seated) (place : ℕ)
    (s : Seated) → IsOnlyAt (is_one_test own) (map (λ s. s.0.id) seats) place → slice_get seats place ≡ Some s
    → map (seated_after e) seats ≡ set seats place (seated_after e s)
seats_set own e only [] place s at is = absurd at
seats_set own e only (t ∷ seats) zero s at is =
    ap₂ (λ x rest. seated_after e x ∷ rest) (same_Some t s is) (others_kept own e only seats at.1)
seats_set own e only (t ∷ seats) (suc place) s at is =
    let tells = only t.0.id at.0 in
    ap₂ (λ seat rest. (t.0, seat) ∷ rest) (seat_kept t.0.id t.1 e tells.0 tells.1)
    (seats_set own e only seats place s at.1 is)

pub start_only : (own : TestInstanceId) (slot : TestSlotAssignment) → TellsOnly own (seen.TestStarted own slot)
start_only own slot id other = (other, refl)

pub finish_only : (own : TestInstanceId) (statuses : List (List ℕ)) → TellsOnly own (seen.Finished own statuses)
finish_only own statuses id other = (refl, other)

-- an event that tells no start and no finish of any test leaves the seats
abbrev pub TellsNone : AuditEvent → Type 0
TellsNone e = (id : TestInstanceId) → (is_seen_start id e ≡ false) × (is_seen_finish id e ≡ false)

pub seats_left : (e : AuditEvent) → TellsNone e → (seats : List Seated) → map (seated_after e) seats ≡ seats
seats_left e none [] = refl
seats_left e none (s ∷ seats) =
    let tells = none s.0.id in
    ap₂ (λ seat rest. (s.0, seat) ∷ rest) (seat_kept s.0.id s.1 e tells.0 tells.1) (seats_left e none seats)

-- and so does one that tells only of a test that has no seat
pub seats_same : (own : TestInstanceId) (e : AuditEvent) → TellsOnly own e → (seats : List Seated)
    → list_any (is_one_test own) (map (λ s. s.0.id) seats) ≡ false → map (seated_after e) seats ≡ seats
seats_same own e only seats none = others_kept own e only seats none

-- ---- sums with one set

sum_more : {X : Type 0} (f : X → ℕ) (a : ℕ) (xs : List X)
    → fold (λ n x. n + f x) a xs ≡ a + fold (λ n x. n + f x) 0 xs
sum_more f a [] = sym (add-zero a)
sum_more f a (x ∷ xs) =
    let first = sum_more f (a + f x) xs in
    let rest = sum_more f (0 + f x) xs in
    omega (arith, first, rest)

pub sum_set : {X : Type 0} (f : X → ℕ) (xs : List X) (place : ℕ) (old new : X) → slice_get xs place ≡ Some old
    → sum_by f (set xs place new) + f old ≡ sum_by f xs + f new
sum_set f [] place old new is = absurd (true≢false (ap is_some (sym is)))
sum_set f (x ∷ xs) zero old new is =
    let own : f x ≡ f old = ap f (same_Some x old is) in
    let before = sum_more f (0 + f x) xs in
    let after = sum_more f (0 + f new) xs in
    omega (arith, own, before, after)
sum_set f (x ∷ xs) (suc place) old new is =
    let more = sum_set f xs place old new is in
    let before = sum_more f (0 + f x) xs in
    let after = sum_more f (0 + f x) (set xs place new) in
    omega (arith, more, before, after)
