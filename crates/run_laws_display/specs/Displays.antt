-- Which tests are displayed after every legal journal, and that what is told of a test finds it displayed.
use Rattle.std.specs.Prelude.{ℕ, ◌≡◌, Bool, true, false, List, ◌∷◌, ◌++◌, map, filter_map, Option, Some}
use Rattle.std.specs.Prelude.{None, IfSome}
use Rattle.std.specs.Prelude.{Ok}
use Rattle.std.specs.List.{All, IsDistinct, list_any}
use Rattle.run_events.specs.declared.plan.Plan.{Plan}
use Rattle.run_events.specs.declared.plan.PlanTest.{PlanTest}
use Rattle.run_events.specs.declared.plan.TestInstanceId.{TestInstanceId}
use Rattle.run_events.specs.declared.settings.Settings.{Settings}
use Rattle.run_events.specs.declared.events.ReporterEvent.{ReporterEvent}
use Rattle.run_events.specs.declared.events.ReporterEvent.TheVariants.{Tick, Test}
use Rattle.run_events.specs.declared.events.TestEvent.{TestEvent}
use Rattle.run_events.specs.declared.events.TestEventKind.{TestEventKind}
use Rattle.run_events.specs.declared.events.TestEventKind.TheVariants.{TestStarted, TestSlow}
use Rattle.run_events.specs.declared.events.TestEventKind.TheVariants.{TestAttemptFailedWillRetry}
use Rattle.run_events.specs.declared.events.TestEventKind.TheVariants.{TestRetryStarted, TestFinished}
use Rattle.run_model.specs.declared.entry.Entry.{Entry}
use Rattle.run_model.specs.Journal.{IsLegal, past_of}
use Rattle.run_model.specs.Words.{is_running, sub_run, told}
use Rattle.run_engine.specs.Builder.{Builder, IsBuilt}
use Rattle.run_model.specs.Once.{HasEachIdOnce}
use Rattle.run_progress.specs.declared.running_test.RunningTest.{RunningTest}
use Rattle.run_progress.specs.Deeds.{is_same}
use Rattle.run_progress.specs.Display.{display}
use Rattle.run_laws_events.specs.Names.{test_of_unit}

-- what a display hears of told events: all but ticks
abbrev pub heard_in : ReporterEvent → Option TestEvent
heard_in (Test event) = Some event
heard_in Tick = None

abbrev pub events_heard : List ReporterEvent → List TestEvent
events_heard events = filter_map heard_in events

-- the running tests of a display that has heard told events
abbrev pub tests_displayed : List ReporterEvent → List RunningTest
tests_displayed events = display (events_heard events)

-- whether a test is displayed
abbrev pub is_displayed : TestInstanceId → List RunningTest → Bool
is_displayed id tests = list_any (λ running. is_same id running.test) tests

-- no test is displayed twice, after any told events
abbrev pub DisplaysHaveNoTwins : Type 0
DisplaysHaveNoTwins = (events : List ReporterEvent)
    → IsDistinct is_same (map (λ running. running.test) (tests_displayed events))

-- that holds of the settings of each runner that `build` makes
abbrev pub BuiltPlansHaveIdsOnce : Type 0
BuiltPlansHaveIdsOnce = (builder : Builder) (plan : Plan) (settings : Settings)
    → IsBuilt builder plan (Ok settings) → HasEachIdOnce settings

-- after every legal journal of such a plan each test of it is displayed exactly where it was told started in the newest
-- sub-run and not told finished in it
abbrev pub DisplaysShowRunning : Type 0
DisplaysShowRunning = (p : Settings) (journal : List Entry) → HasEachIdOnce p → IsLegal p journal
    → (k : ℕ) (test : PlanTest) → test_of_unit p k ≡ Some test
    → is_displayed test.id (tests_displayed (told (past_of p journal)))
    ≡ is_running (told (sub_run (past_of p journal))) k

-- a displayed test is one of the plan
abbrev pub IsOfPlan : Settings → RunningTest → Type 0
IsOfPlan p running = (k : ℕ)
    × ((test : PlanTest) × ((test_of_unit p k ≡ Some test) × (running.test ≡ test.id)))

-- that holds of each, after every legal journal of any plan
abbrev pub DisplaysShowThePlan : Type 0
DisplaysShowThePlan = (p : Settings) (journal : List Entry) → IsLegal p journal
    → All (IsOfPlan p) (tests_displayed (told (past_of p journal)))

-- the test that an event starts, if it starts one; and the one of which it tells anything else, but that it
-- is skipped
abbrev pub test_begun : TestEventKind → Option TestInstanceId
test_begun (TestStarted event) = Some event.start.test.id
test_begun _ = None

abbrev pub test_going_on : TestEventKind → Option TestInstanceId
test_going_on (TestSlow event) = Some event.test.id
test_going_on (TestAttemptFailedWillRetry event) = Some event.failed.test.id
test_going_on (TestRetryStarted event) = Some event.retry.start.test.id
test_going_on (TestFinished event) = Some event.finish.test.id
test_going_on _ = None

-- an event finds the test that it starts not displayed, and the other displayed, after these
pub record FindsItsTest (before : List ReporterEvent) (event : TestEvent) : Type 0 where
  pub begun : IfSome (test_begun event.kind) (λ id. is_displayed id (tests_displayed before) ≡ false)
  pub going_on : IfSome (test_going_on event.kind) (λ id. is_displayed id (tests_displayed before) ≡ true)

-- each event that a legal journal of a plan with each id once tells does so, after all told before it
abbrev pub EventsFindTheirTests : Type 0
EventsFindTheirTests = (p : Settings) (journal : List Entry) → HasEachIdOnce p → IsLegal p journal
    → (before after : List ReporterEvent) (event : TestEvent)
    → told (past_of p journal) ≡ before ++ Test event ∷ after → FindsItsTest before event
