-- The retries of a test as they are told, by the plan, and the numbers of its attempts.
use Rattle.std.specs.Prelude.{ℕ, zero, suc, ◌≡◌, ◌+◌, ◌==◌, List, [], ◌∷◌, ◌++◌, map, length, if◌then◌else◌, Option}
use Rattle.std.specs.Prelude.{Some, None, filter_map, ◌≤◌, IfSome}
use Rattle.std.specs.List.{range_with_len}
use Rattle.run_commands.specs.TargetRunner.{runner_for}
use Rattle.run_events.specs.declared.message.TestRetry.{TestRetry}
use Rattle.run_events.specs.declared.plan.PlanTest.{PlanTest}
use Rattle.run_events.specs.declared.plan.TestSlotAssignment.{TestSlotAssignment}
use Rattle.run_events.specs.declared.settings.Settings.{Settings}
use Rattle.run_events.specs.declared.events.ReporterEvent.{ReporterEvent}
use Rattle.run_events.specs.declared.events.ReporterEvent.TheVariants.{Test}
use Rattle.run_events.specs.declared.events.TestEventKind.{TestEventKind}
use Rattle.run_events.specs.declared.events.TestEventKind.TheVariants.{TestAttemptFailedWillRetry, TestRetryStarted}
use Rattle.run_model.specs.declared.entry.Entry.{Entry}
use Rattle.run_model.specs.Admission.{runner_words}
use Rattle.run_model.specs.Journal.{IsLegal, past_of}
use Rattle.run_model.specs.Words.{sub_run, told}
use Rattle.run_laws.specs.Limits.{slots_told}
use Rattle.run_laws_events.specs.Names.{planned_attempts, planned_retries, test_named, test_of_unit}
use Rattle.run_events.specs.declared.stress.StressIndex.{StressIndex}
use Rattle.run_model.specs.SubRuns.{stress_index}

-- the retry of unit k that an event tells, if it tells one, and all that were told, in order
abbrev pub retry_in : ℕ → TestEventKind → Option TestRetry
retry_in k (TestRetryStarted event) = if event.retry.start.test.unit == k then Some event.retry else None
retry_in k _ = None

abbrev pub retry_told : ℕ → ReporterEvent → Option TestRetry
retry_told k (Test event) = retry_in k event.kind
retry_told k _ = None

abbrev pub retries_told : ℕ → List ReporterEvent → List TestRetry
retries_told k events = filter_map (retry_told k) events

-- the retry of a test of the plan as attempt n, in these slots: the words of its platform's runner stand before its own
abbrev pub retry_as : Settings → Option StressIndex → ℕ → PlanTest → TestSlotAssignment → ℕ → TestRetry
retry_as p index k test slot n = record {
  start = record {
    test = test_named index k test;
    command = runner_words (runner_for p.plan.runners test.platform) ++ test.command;
    slot = slot;
  };
  attempt = n;
  attempts = planned_attempts p test;
}

-- the first n retries of unit k, by the plan's test and the slots that it started in: none of a unit that has neither
abbrev pub retries_as : Settings → Option StressIndex → ℕ → Option PlanTest → Option TestSlotAssignment → ℕ
    → List TestRetry
retries_as p index k (Some test) (Some slot) n = map (retry_as p index k test slot) (range_with_len 2 n)
retries_as p index k _ _ n = []

-- the retries of a unit are told as attempts 2, 3, 4 and so on, as the plan says, in the slots of the start that was
-- told
abbrev pub AreRetriesInOrder : Settings → Option StressIndex → ℕ → List ReporterEvent → Type 0
AreRetriesInOrder p index k events =
    retries_told k events
    ≡ retries_as p index k (test_of_unit p k) (slots_told k events) (length (retries_told k events))

-- that holds of each unit in the newest sub-run after every legal journal
abbrev pub RetriesToldInOrder : Type 0
RetriesToldInOrder = (p : Settings) (journal : List Entry) → IsLegal p journal → (k : ℕ)
    → AreRetriesInOrder p (stress_index p (past_of p journal)) k (told (sub_run (past_of p journal)))

-- no more retries of a test are told than the plan gives it
abbrev pub AreRetriesFew : Settings → ℕ → List ReporterEvent → Type 0
AreRetriesFew p k events =
    IfSome (test_of_unit p k) (λ test. length (retries_told k events) ≤ planned_retries p.retries test)

-- that holds of each unit in the newest sub-run after every legal journal
abbrev pub RetriesToldFew : Type 0
RetriesToldFew = (p : Settings) (journal : List Entry) → IsLegal p journal → (k : ℕ)
    → AreRetriesFew p k (told (sub_run (past_of p journal)))

-- what is told between the start of a test and its finish: that the attempt of this number failed, and is tried again,
-- or that it started as a retry
pub data Try : Type 0 where
  failure_of : ℕ → Try
  retry_to : ℕ → Try

abbrev pub try_in : ℕ → TestEventKind → Option Try
try_in k (TestAttemptFailedWillRetry event) =
    if event.failed.test.unit == k then Some (failure_of event.failed.status.attempt) else None
try_in k (TestRetryStarted event) =
    if event.retry.start.test.unit == k then Some (retry_to event.retry.attempt) else None
try_in k _ = None

abbrev pub try_told : ℕ → ReporterEvent → Option Try
try_told k (Test event) = try_in k event.kind
try_told k _ = None

abbrev pub tries_told : ℕ → List ReporterEvent → List Try
tries_told k events = filter_map (try_told k) events

-- n of them from attempt a on: its failure, the retry to the next attempt, the failure of that, and so on
abbrev pub tries_from : ℕ → ℕ → List Try
tries_from a zero = []
tries_from a (suc zero) = failure_of a ∷ []
tries_from a (suc (suc n)) = failure_of a ∷ retry_to (a + 1) ∷ tries_from (a + 1) n

-- what is told of a unit between its start and its finish is numbered so, from attempt 1 on
abbrev pub AreNumbered : ℕ → List ReporterEvent → Type 0
AreNumbered k events = tries_told k events ≡ tries_from 1 (length (tries_told k events))

-- that holds of each unit in the newest sub-run after every legal journal
abbrev pub RetriesNumbered : Type 0
RetriesNumbered = (p : Settings) (journal : List Entry) → IsLegal p journal → (k : ℕ)
    → AreNumbered k (told (sub_run (past_of p journal)))
