-- How often each script and test is told started, finished and skipped.
use Rattle.std.specs.Prelude.{ℕ, ◌≡◌, ◌≤◌, ◌==◌, nat_lt, List, Bool, true, false, ◌&&◌, not, count_by}
use Rattle.std.specs.Prelude.{None}
use Rattle.std.specs.List.{All, list_any}
use Rattle.run_events.specs.Stats.{one_if}
use Rattle.run_events.specs.declared.events.ReporterEvent.{ReporterEvent}
use Rattle.run_events.specs.declared.events.ReporterEvent.TheVariants.{Test}
use Rattle.run_events.specs.declared.events.TestEventKind.{TestEventKind}
use Rattle.run_events.specs.declared.events.TestEventKind.TheVariants.{TestSkipped}
use Rattle.run_events.specs.declared.settings.Settings.{Settings}
use Rattle.run_model.specs.declared.entry.Entry.{Entry}
use Rattle.run_model.specs.declared.happening.Happening.{Happening}
use Rattle.run_model.specs.Accounts.{is_mismatched}
use Rattle.run_model.specs.Admission.{units_in}
use Rattle.run_model.specs.Journal.{IsLegal, past_of}
use Rattle.run_model.specs.Story.{never_started, was_left}
use Rattle.run_model.specs.Words.{ended_runs, finishes, is_over, starts, sub_run, told}
use Rattle.run_laws_calls.specs.Stops.{tells_cancel}

-- whether an event tells that test k is skipped
abbrev pub skips_unit_in : ℕ → TestEventKind → Bool
skips_unit_in k (TestSkipped event) = event.test.unit == k
skips_unit_in k _ = false

abbrev pub skips_unit : ℕ → ReporterEvent → Bool
skips_unit k (Test event) = skips_unit_in k event.kind
skips_unit k _ = false

-- how many events tell that unit k starts, finishes, and is skipped
abbrev pub starts_told : ℕ → List ReporterEvent → ℕ
starts_told k events = count_by (starts k) events

abbrev pub finishes_told : ℕ → List ReporterEvent → ℕ
finishes_told k events = count_by (finishes k) events

abbrev pub skips_told : ℕ → List ReporterEvent → ℕ
skips_told k events = count_by (skips_unit k) events

-- a unit is to run: it is a script of the plan, or a test of it that matches
abbrev pub is_to_run : Settings → ℕ → Bool
is_to_run p k = nat_lt k (units_in p) && not (is_mismatched p k)

-- a unit that is to run is told started once at most, and finished at most as often; a test that doesn't match is told
-- skipped once at most; and no other one is told so
pub record IsToldAtMostOnce (p : Settings) (events : List ReporterEvent) (k : ℕ) : Type 0 where
  pub starts : starts_told k events ≤ one_if (is_to_run p k)
  pub finishes : finishes_told k events ≤ starts_told k events
  pub skips : skips_told k events ≤ one_if (is_mismatched p k)

-- that holds of each number in the newest sub-run, after every legal journal
abbrev pub EachOnceAtMost : Type 0
EachOnceAtMost = (p : Settings) (journal : List Entry) → IsLegal p journal → (k : ℕ)
    → IsToldAtMostOnce p (told (sub_run (past_of p journal))) k

-- a unit that is to run is told started just once unless it was never started, and finished just once unless it was
-- never started or was left; a test that doesn't match is told skipped just once; and no other one is told so
pub record IsToldByItsFate (p : Settings) (run : List Happening) (k : ℕ) : Type 0 where
  pub starts : starts_told k (told run) ≡ one_if (is_to_run p k && not (never_started k run))
  pub finishes : finishes_told k (told run)
      ≡ one_if (is_to_run p k && not (never_started k run) && not (was_left k run))
  pub skips : skips_told k (told run) ≡ one_if (is_mismatched p k)

-- that holds of each number in each sub-run of a legal journal that has ended
abbrev pub AreToldByFate : Settings → List Happening → Type 0
AreToldByFate p run = (k : ℕ) → IsToldByItsFate p run k

abbrev pub EachByItsFate : Type 0
EachByItsFate = (p : Settings) (journal : List Entry) → IsLegal p journal
    → All (AreToldByFate p) (ended_runs (past_of p journal))

-- a unit that is to run is told started and finished just once, and a test that doesn't match skipped just once
pub record IsToldJustOnce (p : Settings) (events : List ReporterEvent) (k : ℕ) : Type 0 where
  pub starts : starts_told k events ≡ one_if (is_to_run p k)
  pub finishes : finishes_told k events ≡ one_if (is_to_run p k)
  pub skips : skips_told k events ≡ one_if (is_mismatched p k)

-- that holds of each number in each sub-run of a legal journal that has ended, and in which no event told that the run
-- is cancelled
abbrev pub AreToldJustOnce : Settings → List Happening → Type 0
AreToldJustOnce p run =
    list_any tells_cancel (told run) ≡ false → (k : ℕ) → IsToldJustOnce p (told run) k

abbrev pub EachOnce : Type 0
EachOnce = (p : Settings) (journal : List Entry) → IsLegal p journal
    → All (AreToldJustOnce p) (ended_runs (past_of p journal))

-- so of all numbers where the run is over, and no stress run, and no event told that
abbrev pub OneJustOnce : Type 0
OneJustOnce = (p : Settings) (journal : List Entry) → p.stress ≡ None → IsLegal p journal
    → is_over (past_of p journal) ≡ true → list_any tells_cancel (told (past_of p journal)) ≡ false
    → (k : ℕ) → IsToldJustOnce p (told (past_of p journal)) k
