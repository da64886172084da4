-- Which tests are displayed after every legal journal.
use Rattle.std.proofs.Common.{◌≡◌, ℕ, List, [], ◌∷◌, Bool, true, false, if◌then◌else◌, Option, Some, ◌∙◌}
use Rattle.std.specs.List.{All}
use Rattle.std.specs.Prelude.{unwrap_or}
use Rattle.std.proofs.lemmas.List.Elements.{All-append, All-cons, All-head, All-nil, All-tail}
use Rattle.run_events.specs.declared.message.TestUnit.{TestUnit}
use Rattle.run_events.specs.declared.plan.PlanTest.{PlanTest}
use Rattle.run_events.specs.declared.settings.Settings.{Settings}
use Rattle.run_events.specs.declared.stress.StressIndex.{StressIndex}
use Rattle.run_events.specs.declared.events.ReporterEvent.{ReporterEvent}
use Rattle.run_events.specs.declared.events.ReporterEvent.TheVariants.{Tick, Test}
use Rattle.run_events.specs.declared.events.TestEvent.{TestEvent}
use Rattle.run_events.specs.declared.events.TestEventKind.{TestEventKind}
use Rattle.run_events.specs.declared.events.TestEventKind.TheVariants as kinds
use Rattle.run_model.specs.declared.entry.Entry.{Entry}
use Rattle.run_model.specs.Accounts.{account_of}
use Rattle.run_model.specs.Journal.{history, IsLegalBackward}
use Rattle.run_model.specs.Words.{is_running, sub_run, told}
use Rattle.run_progress.specs.declared.running_test.RunningTestStatus.{RunningTestStatus}
use Rattle.run_progress.specs.declared.running_test.RunningTestStatus.TheVariants as statuses
use Rattle.run_progress.specs.Deeds.{deed_of, paused_in, starts}
use Rattle.run_progress.specs.Display.{display, is_replaced, running_after, running_test, started_by}
use Rattle.run_laws_events.specs.Names.{IsTestNamed, NamesThePlanIn, test_of_unit}
use Rattle.run_model.specs.Once.{HasEachIdOnce}
use Rattle.run_laws_display.specs.Displays.{IsOfPlan, tests_displayed, events_heard, is_displayed}
use Rattle.run_laws_display.proofs.CourseLemmas.{course_shown}
use Rattle.run_laws_display.proofs.NewsLemmas.{displayed_news}
use Rattle.run_laws_display.proofs.SameLemmas.{test_planned, unit_named}
use Rattle.run_laws_display.proofs.SubRunLemmas.{shown_newest}
use Rattle.run_laws_display.proofs.WholeLemmas.{NamesInSome, course_newest, named_whole, runs-is}

pub displays_running : (p : Settings) (backward : List Entry) → HasEachIdOnce p → IsLegalBackward p backward
    → (k : ℕ) (test : PlanTest) → test_of_unit p k ≡ Some test
    → is_displayed test.id (tests_displayed (told (history p backward)))
    ≡ is_running (told (sub_run (history p backward))) k
displays_running p backward once legal k test there =
    let run : List ReporterEvent = told (sub_run (history p backward)) in
    displayed_news p k test once there (told (history p backward)) (named_whole p backward legal)
    ∙ shown_newest p backward legal k (test_planned p k test there)
    ∙ course_shown (account_of k run) (course_newest p backward legal k)
    ∙ runs-is k run

-- a test that is started by an event that names the plan is one of the plan
module _ (p : Settings) (start before : ℕ) (later : List TestEvent) where
  one_of_plan : (index : Option StressIndex) (unit : TestUnit) (status : RunningTestStatus) → IsTestNamed p index unit
      → All (IsOfPlan p) (started_by (starts unit.id status) start before later)
  one_of_plan index unit status named = by_replaced (is_replaced unit.id later)
    where
      it : IsOfPlan p (running_test unit.id status start before later)
      it = (unit.unit, unit_named p index unit named)

      by_replaced : (r : Bool)
          → All (IsOfPlan p) (if r then [] else running_test unit.id status start before later ∷ [])
      by_replaced true = All-nil (IsOfPlan p)
      by_replaced false =
          All-cons (IsOfPlan p) (running_test unit.id status start before later) [] it (All-nil (IsOfPlan p))

  started_of_plan : (index : Option StressIndex) (kind : TestEventKind) → NamesThePlanIn p index kind
      → All (IsOfPlan p) (started_by (deed_of kind) start before later)
  started_of_plan index (kinds.TestStarted e) named = one_of_plan index e.start.test statuses.Running named
  started_of_plan index (kinds.TestAttemptFailedWillRetry e) named =
      one_of_plan index e.failed.test (statuses.Delay e.failed.delay_next) named
  started_of_plan index (kinds.TestRetryStarted e) named = one_of_plan index e.retry.start.test statuses.Retry named
  started_of_plan index kind named = All-nil (IsOfPlan p)

running_of_plan : (p : Settings) (before : ℕ) (events : List ReporterEvent) → All (NamesInSome p) events
    → All (IsOfPlan p) (running_after before (events_heard events))
running_of_plan p before [] named = All-nil (IsOfPlan p)
running_of_plan p before (Tick ∷ events) named =
    running_of_plan p before events (All-tail (NamesInSome p) Tick events named)
running_of_plan p before (Test event ∷ events) named =
    let paused : ℕ = unwrap_or (paused_in event) before in
    let it : NamesInSome p (Test event) = All-head (NamesInSome p) (Test event) events named in
    All-append (IsOfPlan p) (started_by (deed_of event.kind) event.clock paused (events_heard events))
    (running_after paused (events_heard events))
    (started_of_plan p event.clock paused (events_heard events) it.0 event.kind it.1)
    (running_of_plan p paused events (All-tail (NamesInSome p) (Test event) events named))

pub displays_plan : (p : Settings) (backward : List Entry) → IsLegalBackward p backward
    → All (IsOfPlan p) (tests_displayed (told (history p backward)))
unfolding display
displays_plan p backward legal = running_of_plan p 0 (told (history p backward)) (named_whole p backward legal)
