-- What the tests that were told started, and not told finished, hold of the limits.
use Rattle.std.specs.Prelude.{ℕ, ◌==◌, List, [], ◌∷◌, map, take, if◌then◌else◌, Option, Some, None, option_map}
use Rattle.std.specs.Option.{option_or}
use Rattle.std.specs.List.{range_with_len}
use Rattle.run_events.specs.declared.settings.Settings.{Settings}
use Rattle.run_events.specs.declared.plan.TestSlotAssignment.{TestSlotAssignment}
use Rattle.run_events.specs.declared.events.ReporterEvent.{ReporterEvent}
use Rattle.run_events.specs.declared.events.ReporterEvent.TheVariants.{Test}
use Rattle.run_events.specs.declared.events.TestEventKind.{TestEventKind}
use Rattle.run_events.specs.declared.events.TestEventKind.TheVariants.{TestStarted}
use Rattle.run_admission.specs.declared.seat.Seat.{Seat}
use Rattle.run_admission.specs.declared.seat.Seat.TheVariants.{InUse, Gone}
use Rattle.run_admission.specs.InUse.{Admissions, claim_of}
use Rattle.run_admission.specs.Laws.{KeepsLimits, HasOwnSlots}
use Rattle.run_model.specs.declared.entry.Entry.{Entry}
use Rattle.run_model.specs.Words.{sub_run, told, is_running}
use Rattle.run_model.specs.Admission.{tests_in, unit_of_test}
use Rattle.run_model.specs.Journal.{IsLegal, past_of}

-- the slots with which an event of a test tells the start of test k, if it does
abbrev pub slots_in : ℕ → TestEventKind → Option TestSlotAssignment
slots_in k (TestStarted event) = if event.start.test.unit == k then Some event.start.slot else None
slots_in k _ = None

-- the slots with which an event of any kind tells the start of test k, if it does
abbrev pub slots_by : ℕ → ReporterEvent → Option TestSlotAssignment
slots_by k (Test event) = slots_in k event.kind
slots_by k _ = None

-- the slots with which test k was told started, by the first event that told it
abbrev pub slots_told : ℕ → List ReporterEvent → Option TestSlotAssignment
slots_told k [] = None
slots_told k (e ∷ es) = option_or (slots_by k e) (slots_told k es)

-- the seat of a test in these slots; one with none is not in use
abbrev pub seat_in : Option TestSlotAssignment → Seat
seat_in None = Gone
seat_in (Some slots) = InUse slots.global (option_map (λ g. g.slot) slots.group)

-- where test k stands by what was told: in use, in its slots, from its start to its finish
abbrev pub seat_told : List ReporterEvent → ℕ → Seat
seat_told events k = if is_running events k then seat_in (slots_told k events) else Gone

-- what the tests of the plan hold of the limits, where each unit has this seat
abbrev pub limits_with : Settings → (ℕ → Seat) → Admissions
limits_with p seat = record {
  threads = p.threads;
  limits = map (λ g. g.limit) p.plan.groups;
  claims = map (claim_of p.plan.groups) p.plan.tests;
  seats = map (λ j. seat (unit_of_test p j)) (range_with_len 0 (tests_in p));
}

-- what the tests of the plan hold of the limits by what was told
abbrev pub limits_told : Settings → List ReporterEvent → Admissions
limits_told p events = limits_with p (seat_told events)

-- after each event that is told in the newest sub-run of a legal journal, the tests told started and not told finished
-- keep every limit, and in the slots that their starts were told with no two of them hold the same one
abbrev pub LimitsHold : Type 0
LimitsHold = (p : Settings) (journal : List Entry) (n : ℕ) → IsLegal p journal
    → KeepsLimits (limits_told p (take n (told (sub_run (past_of p journal)))))
    × HasOwnSlots (limits_told p (take n (told (sub_run (past_of p journal)))))
