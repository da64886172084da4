-- What a part tells of each test, and what is due by its run.
use Rattle.std.specs.Prelude.{ℕ, ◌≡◌, List, map, filter_map, if◌then◌else◌, Bool, Option, Some, None}
use Rattle.std.specs.Prelude.{slice_get, IfSome}
use Rattle.std.specs.List.{All}
use Rattle.run_events.specs.declared.plan.PlanTest.{PlanTest}
use Rattle.run_events.specs.declared.plan.TestInstanceId.{TestInstanceId}
use Rattle.run_events.specs.declared.settings.Settings.{Settings}
use Rattle.run_model.specs.declared.happening.Happening.{Happening}
use Rattle.run_model.specs.Accounts as news
use Rattle.run_model.specs.Accounts.{News, is_mismatched}
use Rattle.run_model.specs.Admission.{unit_of_test}
use Rattle.run_model.specs.Attempts.{statuses_of}
use Rattle.run_model.specs.Fates.{account}
use Rattle.run_model.specs.Reruns.{is_one_test}
use Rattle.run_model.specs.Story.{stopped_at}
use Rattle.run_audit_model.specs.Statuses.{Compared, compared, due_status}
use Rattle.run_audit_model.specs.declared.audit_event.AuditEvent.{AuditEvent}
use Rattle.run_audit_model.specs.declared.audit_event.AuditEvent.TheVariants as seen

-- what an event tells of a test
pub data TestNews : Type 0 where
  began : TestNews
  failed : Compared → TestNews
  retried : ℕ → TestNews
  finished : List Compared → TestNews
  skipped : TestNews

-- the test that an event tells of, with what it tells
abbrev pub seen_test : AuditEvent → Option (TestInstanceId × TestNews)
seen_test (seen.TestStarted test slot) = Some (test, began)
seen_test (seen.AttemptFailed test status) = Some (test, failed (compared status))
seen_test (seen.RetryStarted test attempt) = Some (test, retried attempt)
seen_test (seen.Finished test statuses) = Some (test, finished (map compared statuses))
seen_test (seen.Skipped test) = Some (test, skipped)
seen_test _ = None

abbrev pub news_if : TestInstanceId → Option (TestInstanceId × TestNews) → Option TestNews
news_if test None = None
news_if test (Some told) = if is_one_test told.0 test then Some told.1 else None

-- what events tell of a test, in order
abbrev pub seen_account : TestInstanceId → List AuditEvent → List TestNews
seen_account test events = filter_map (λ e. news_if test (seen_test e)) events

-- what a run tells, as it is seen
abbrev pub as_seen : News → TestNews
as_seen news.started = began
as_seen (news.failed status) = failed (due_status status)
as_seen (news.retried attempt) = retried attempt
as_seen (news.finished statuses) = finished (map due_status statuses)
as_seen news.skipped = skipped

-- what is due of a unit in a sub-run: its account, by where it was stopped and by the attempts that its own turns made
abbrev pub due_account : Settings → List Happening → ℕ → List TestNews
due_account p run k = map as_seen (account (is_mismatched p k) (stopped_at k run) (statuses_of p k run))

-- an event tells of no test, or of one of the plan
abbrev pub IsSeenOfPlan : Settings → AuditEvent → Type 0
IsSeenOfPlan p e = IfSome (seen_test e) (λ told. (j : ℕ) × (test : PlanTest)
    × (slice_get p.plan.tests j ≡ Some test) × (is_one_test told.0 test.id ≡ Bool.true))

-- a part tells of each test of the plan what its sub-run is due, and of no other
pub record KeepsAccounts (p : Settings) (run : List Happening) (part : List AuditEvent) : Type 0 where
  pub each : (j : ℕ) (test : PlanTest) → slice_get p.plan.tests j ≡ Some test
      → seen_account test.id part ≡ due_account p run (unit_of_test p j)
  pub planned : All (IsSeenOfPlan p) part
