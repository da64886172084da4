-- What an event makes of the seats of a part, and how a part begins.
use Rattle.std.specs.Prelude.{slice_get}
use Rattle.std.proofs.Common.{◌≡◌, ◌∙◌, ℕ, zero, suc, ◌+◌, ◌<◌, nat_eq, add-zero, List, [], ◌∷◌, length, map, set}
use Rattle.std.proofs.Common.{fold, sum_by, cond}
use Rattle.std.proofs.Common.{Option, Some, None, Bool, true, false, ◌||◌, if◌then◌else◌, refl, sym, ap, ap₂, subst}
use Rattle.std.specs.BTreeMap.{BTreeMap, get}
use Rattle.std.proofs.lemmas.List.{length-map}
use Rattle.std.specs.BTreeSet.{contains}
use Rattle.std.specs.List.{list_any}
use Rattle.std.specs.Option.{option_map_or}
use Rattle.std.specs.Ordering.{nat_cmp}
use Rattle.run_events.specs.declared.plan.PlanTest.{PlanTest}
use Rattle.run_events.specs.declared.plan.TestInstanceId.{TestInstanceId}
use Rattle.run_events.specs.declared.plan.TestSlotAssignment.{TestSlotAssignment}
use Rattle.run_events.specs.declared.settings.Settings.{Settings}
use Rattle.run_laws_events.specs.PlanLimits.{is_of_group}
use Rattle.run_model.specs.Reruns.{is_one_test}
use Rattle.run_audit_model.specs.declared.audit_event.AuditEvent.{AuditEvent}
use Rattle.run_audit_model.specs.declared.audit_event.AuditEvent.TheVariants as seen
use Rattle.run_audit_machines.specs.Accounts.{IsOnlyAt}
use Rattle.run_audit_machines.specs.Holders.{is_key, own_group_slot, same_slot, slot_told}
use Rattle.run_audit_machines.specs.Limits.{Seat, Seated, SeatsNow, keeps_seats, limit_part, no_seat, no_seats}
use Rattle.run_audit_machines.specs.Limits.{seat_group_weight, seat_weight, seated_after, seen_seats_after}
use Rattle.run_audit_machines.proofs.LimitLemmas.{none_kept}
use Rattle.run_audit_machines.proofs.LimitStepLemmas.{untold_taken}
use Rattle.run_audit_machines.proofs.SeatStepLemmas.{TellsNone, TellsOnly, finish_only, seats_left, seats_same}
use Rattle.run_audit_machines.proofs.SeatStepLemmas.{seats_set, start_only}
use Rattle.run_audit_machines.proofs.AccountPlaceLemmas.{only_within}
use Rattle.run_audit_passes.specs.LimitTable.{ChangesSeats, IsFirstTable, IsTable, group_slot_order, seat_at}
use Rattle.run_audit_passes.specs.LimitTable.{seat_finished, seat_set, seat_started, seats_from, seats_now, sum_in}
use Rattle.run_audit_passes.specs.declared.limit_table.LimitTable.{LimitTable}
use Rattle.run_audit_passes.specs.declared.seat_told.SeatTold.{SeatTold}

-- ---- the seat of an id

pub only_at : {S I : Type 0} (f : S → I) (test : I → Bool) (items : List S) (place : ℕ)
    → IsOnlyAt test (map f items) place → (s : S) × (slice_get items place ≡ Some s) × (test (f s) ≡ true)
only_at f test [] place only = absurd only
only_at f test (s ∷ items) zero only = (s, refl, only.0)
only_at f test (s ∷ items) (suc place) only = only_at f test items place only.1

pub ids_are : (told : ℕ → Option SeatTold) (first : ℕ) (tests : List PlanTest)
    → map (λ s. s.0.id) (seats_from told first tests) ≡ map (λ t. t.id) tests
ids_are told first [] = refl
ids_are told first (t ∷ tests) = ap (λ ids. t.id ∷ ids) (ids_are told (suc first) tests)

-- ---- what an event makes of it

pub start_after : (own : TestInstanceId) (slots : TestSlotAssignment) (s : Seated) → is_one_test own s.0.id ≡ true
    → seated_after (seen.TestStarted own slots) s ≡ (s.0, seat_started s.1 slots)
start_after own slots s is =
    ap (λ b. (
      s.0,
      record {
        started = s.1.started + cond b 1 0;
        finished = s.1.finished + 0;
        slots = if b then Some slots else s.1.slots;
      },
    )) is
    ∙ ap (λ n. (s.0, record { started = s.1.started + 1; finished = n; slots = Some slots })) (add-zero s.1.finished)

pub finish_after : (own : TestInstanceId) (statuses : List (List ℕ)) (s : Seated) → is_one_test own s.0.id ≡ true
    → seated_after (seen.Finished own statuses) s ≡ (s.0, seat_finished s.1)
finish_after own statuses s is =
    ap (λ b. (
      s.0,
      record {
        started = s.1.started + 0;
        finished = s.1.finished + cond b 1 0;
        slots = s.1.slots;
      },
    )) is
    ∙ ap (λ n. (s.0, record { started = n; finished = s.1.finished + 1; slots = s.1.slots })) (add-zero s.1.started)

abbrev where_kept : SeatsNow → Option SeatsNow
where_kept now = if keeps_seats now then Some now else None

-- an event that tells of one test changes its seat
seats_after : (before : SeatsNow) (own : TestInstanceId) (e : AuditEvent) (place : ℕ) (s : Seated) (new : Seat)
    → TellsOnly own e → IsOnlyAt (is_one_test own) (map (λ s. s.0.id) before.seats) place
    → slice_get before.seats place ≡ Some s → seated_after e s ≡ (s.0, new)
    → seen_seats_after before e ≡ seat_set before place (s.0, new)
seats_after before own e place s new only at there is =
    ap (λ seats. record { settings = before.settings; seats = seats })
    (seats_set own e only before.seats place s at there ∙ ap (set before.seats place) is)

pub told_taken : (before after : SeatsNow) (own : TestInstanceId) (e : AuditEvent) (place : ℕ) (s : Seated) (new : Seat)
    (kept : Bool) → TellsOnly own e → IsOnlyAt (is_one_test own) (map (λ s. s.0.id) before.seats) place
    → slice_get before.seats place ≡ Some s → seated_after e s ≡ (s.0, new)
    → ChangesSeats before after place new kept → kept ≡ true → limit_part.takes before e ≡ Some after
told_taken before after own e place s new kept only at there is changes so =
    let change = changes s there in
    ap where_kept (seats_after before own e place s new only at there is)
    ∙ ap (λ b. if b then Some (seat_set before place (s.0, new)) else None) (sym change.0 ∙ so)
    ∙ ap Some (sym (change.1 so))

pub told_stopped : (before after : SeatsNow) (own : TestInstanceId) (e : AuditEvent) (place : ℕ) (s : Seated)
    (new : Seat) (kept : Bool) → TellsOnly own e
    → IsOnlyAt (is_one_test own) (map (λ s. s.0.id) before.seats) place
    → slice_get before.seats place ≡ Some s → seated_after e s ≡ (s.0, new)
    → ChangesSeats before after place new kept → kept ≡ false → limit_part.takes before e ≡ None
told_stopped before after own e place s new kept only at there is changes so =
    let change = changes s there in
    ap where_kept (seats_after before own e place s new only at there is)
    ∙ ap (λ b. if b then Some (seat_set before place (s.0, new)) else None) (sym change.0 ∙ so)

-- and one that tells of none of the tests changes none
pub unknown_taken : (p : Settings) (table : LimitTable) (ids : List TestInstanceId) (own : TestInstanceId)
    (e : AuditEvent) → IsTable p table → ids ≡ map (λ t. t.id) p.plan.tests → list_any (is_one_test own) ids ≡ false
    → TellsOnly own e → limit_part.takes (seats_now p table.told) e ≡ Some (seats_now p table.told)
unknown_taken p table ids own e is placed none only =
    untold_taken (seats_now p table.told) e is.kept (seats_same own e only (seats_now p table.told).seats
    (ap (list_any (is_one_test own)) (ids_are (get nat_cmp table.told) 0 p.plan.tests ∙ sym placed) ∙ none))

pub other_taken : (p : Settings) (table : LimitTable) (e : AuditEvent) → IsTable p table → TellsNone e
    → limit_part.takes (seats_now p table.told) e ≡ Some (seats_now p table.told)
other_taken p table e is none =
    untold_taken (seats_now p table.told) e is.kept (seats_left e none (seats_now p table.told).seats)

-- ---- before a part

first_seats : (told : ℕ → Option SeatTold) → ((q : ℕ) → told q ≡ None) → (first : ℕ) (tests : List PlanTest)
    → seats_from told first tests ≡ map (λ test. (test, no_seat)) tests
first_seats told none first [] = refl
first_seats told none first (t ∷ tests) =
    ap₂ (λ o seats. (t, seat_by o) ∷ seats) (none first) (first_seats told none (suc first) tests)
  where
    seat_by : Option SeatTold → Seat
    seat_by o = seat_at (λ q. o) 0

sum_none : (f : Seated → ℕ) → ((t : PlanTest) → f (t, no_seat) ≡ 0) → (a : ℕ) (tests : List PlanTest)
    → fold (λ a x. a + f x) a (map (λ test. (test, no_seat)) tests) ≡ a
sum_none f none a [] = refl
sum_none f none a (t ∷ tests) =
    ap (λ n. fold (λ a x. a + f x) n (map (λ test. (test, no_seat)) tests)) (ap (λ n. a + n) (none t) ∙ add-zero a)
    ∙ sum_none f none a tests

none_held : {K : Type 0} (same : K → K → Bool) (key : Seated → Option K) → ((t : PlanTest) → key (t, no_seat) ≡ None)
    → (k : K) (tests : List PlanTest)
    → list_any (is_key same key (Some k)) (map (λ test. (test, no_seat)) tests) ≡ false
none_held same key none k [] = refl
none_held same key none k (t ∷ tests) =
    ap₂ (λ o b. option_map_or (same k) o false || b) (none t) (none_held same key none k tests)

at_none : (b : Bool) (n : ℕ) → n ≡ 0 → (if b then n else 0) ≡ 0
at_none true n none = none
at_none false n none = refl

-- of a table in which nothing is kept
pub first_table : (table : LimitTable) → ((q : ℕ) → get nat_cmp table.told q ≡ None) → table.all.sum ≡ 0
    → ((k : ℕ) → contains nat_cmp table.all.slots k ≡ false) → ((name : List ℕ) → sum_in table.groups.sums name ≡ 0)
    → ((k : List ℕ × Option ℕ) → contains group_slot_order table.groups.slots k ≡ false) → IsFirstTable table
first_table table none no_sum no_held no_sums no_helds p =
    let tests = p.plan.tests in
    let first : seats_now p table.told ≡ no_seats p = ap (λ seats. record { settings = p; seats = seats })
    (first_seats (get nat_cmp table.told) none 0 tests) in
    let back = sym first in (
      record {
        all = record {
          sum_is = subst (λ s. table.all.sum ≡ sum_by (seat_weight p.threads) s.seats) back
              (no_sum ∙ sym (sum_none (seat_weight p.threads) (λ t. refl) 0 tests));
          held_are = λ k. subst (λ s. contains nat_cmp table.all.slots k ≡ list_any (is_key nat_eq slot_told (Some k))
              s.seats) back (no_held k ∙ sym (none_held nat_eq slot_told (λ t. refl) k tests));
        };
        groups = record {
          sums_are = λ name group has. subst (λ s. sum_in table.groups.sums name
              ≡ sum_by (seat_group_weight name group.limit) s.seats) back
              (no_sums name ∙ sym (sum_none (seat_group_weight name group.limit)
              (λ t. at_none (is_of_group name t) 0 refl) 0 tests));
          held_are = λ k. subst (λ s. contains group_slot_order table.groups.slots k
              ≡ list_any (is_key same_slot (own_group_slot p.plan.groups) (Some k)) s.seats) back
              (no_helds k ∙ sym (none_held same_slot (own_group_slot p.plan.groups) (λ t. refl) k tests));
        };
        kept = ap keeps_seats first ∙ none_kept p;
      },
      first,
    )

-- ---- the place that was found

pub only_there : (p : Settings) (told : BTreeMap ℕ SeatTold) (ids : List TestInstanceId) (own : TestInstanceId)
    (place : ℕ) (now : SeatsNow) → seats_now p told ≡ now → ids ≡ map (λ t. t.id) p.plan.tests
    → IsOnlyAt (is_one_test own) ids place → IsOnlyAt (is_one_test own) (map (λ s. s.0.id) now.seats) place
only_there p told ids own place now is placed only =
    subst (λ now. IsOnlyAt (is_one_test own) (map (λ s. s.0.id) now.seats) place) is
    (subst (λ ids. IsOnlyAt (is_one_test own) ids place)
    (placed ∙ sym (ids_are (get nat_cmp told) 0 p.plan.tests)) only)

pub place_within : (seats : List Seated) (own : TestInstanceId) (place : ℕ)
    → IsOnlyAt (is_one_test own) (map (λ s. s.0.id) seats) place → place < length seats
place_within seats own place only =
    subst (λ n. place < n) (length-map seats (λ s. s.0.id))
    (only_within (is_one_test own) (map (λ s. s.0.id) seats) place only)

-- what comes of an event that tells of the test there
abbrev pub Comes : SeatsNow → SeatsNow → AuditEvent → Bool → Type 0
Comes before after e kept = (kept ≡ true → limit_part.takes before e ≡ Some after)
    × (kept ≡ false → limit_part.takes before e ≡ None)

pub start_comes : (before after : SeatsNow) (own : TestInstanceId) (slots : TestSlotAssignment) (place : ℕ)
    (kept : Bool) → IsOnlyAt (is_one_test own) (map (λ s. s.0.id) before.seats) place
    → ((s : Seated) → slice_get before.seats place ≡ Some s
    → ChangesSeats before after place (seat_started s.1 slots) kept)
    → Comes before after (seen.TestStarted own slots) kept
start_comes before after own slots place kept only changes =
    let at = only_at (λ s. s.0.id) (is_one_test own) before.seats place only in
    let is = start_after own slots at.0 at.2 in (
      told_taken before after own (seen.TestStarted own slots) place at.0 (seat_started at.0.1 slots) kept
          (start_only own slots) only at.1 is (changes at.0 at.1),
      told_stopped before after own (seen.TestStarted own slots) place at.0 (seat_started at.0.1 slots) kept
          (start_only own slots) only at.1 is (changes at.0 at.1),
    )

pub finish_comes : (before after : SeatsNow) (own : TestInstanceId) (statuses : List (List ℕ)) (place : ℕ)
    (kept : Bool) → IsOnlyAt (is_one_test own) (map (λ s. s.0.id) before.seats) place
    → ((s : Seated) → slice_get before.seats place ≡ Some s
    → ChangesSeats before after place (seat_finished s.1) kept)
    → Comes before after (seen.Finished own statuses) kept
finish_comes before after own statuses place kept only changes =
    let at = only_at (λ s. s.0.id) (is_one_test own) before.seats place only in
    let is = finish_after own statuses at.0 at.2 in (
      told_taken before after own (seen.Finished own statuses) place at.0 (seat_finished at.0.1) kept
          (finish_only own statuses) only at.1 is (changes at.0 at.1),
      told_stopped before after own (seen.Finished own statuses) place at.0 (seat_finished at.0.1) kept
          (finish_only own statuses) only at.1 is (changes at.0 at.1),
    )

-- any other event tells of none
pub other_none : (e : AuditEvent)
    → ((own : TestInstanceId) (slots : TestSlotAssignment) → e ≡ seen.TestStarted own slots → ⊥)
    → ((own : TestInstanceId) (statuses : List (List ℕ)) → e ≡ seen.Finished own statuses → ⊥) → TellsNone e
other_none (seen.TestStarted own slots) starts finishes id = absurd (starts own slots refl)
other_none (seen.Finished own statuses) starts finishes id = absurd (finishes own statuses refl)
other_none e starts finishes id = (refl, refl)
