-- What is due of a sub-run was told in it: what its events tell of tests, setup scripts and cancels, by their statuses.
use Rattle.std.specs.Prelude.{ℕ, ◌≡◌, List, map, filter_map, reverse, true, Option, Some, None, option_map, slice_get}
use Rattle.std.specs.Prelude.{Bool}
use Rattle.std.specs.List.{All, IsDistinct, flat_map, range_with_len}
use Rattle.run_events.specs.declared.cancel.CancelReason.{CancelReason}
use Rattle.run_events.specs.declared.events.ReporterEvent.{ReporterEvent}
use Rattle.run_events.specs.declared.events.ReporterEvent.TheVariants.{Tick, Test}
use Rattle.run_events.specs.declared.events.TestEventKind.{TestEventKind}
use Rattle.run_events.specs.declared.events.TestEventKind.TheVariants as kinds
use Rattle.run_events.specs.declared.plan.PlanTest.{PlanTest}
use Rattle.run_events.specs.declared.plan.TestInstanceId.{TestInstanceId}
use Rattle.run_events.specs.declared.settings.Settings.{Settings}
use Rattle.run_model.specs.declared.entry.Entry.{Entry}
use Rattle.run_model.specs.Admission.{scripts_in, unit_of_test}
use Rattle.run_model.specs.Journal.{IsLegal, past_of}
use Rattle.run_model.specs.Reruns.{is_one_test}
use Rattle.run_model.specs.Words.{ended_runs, is_over, told}
use Rattle.run_laws.specs.Cancels.{is_second, kills, reason_told}
use Rattle.run_output.specs.Statuses.{script_status_data}
use Rattle.run_audit_model.specs.SeenCancels.{raised}
use Rattle.run_audit_model.specs.SeenScripts as scripts
use Rattle.run_audit_model.specs.SeenScripts.{ScriptNews, due_script}
use Rattle.run_audit_model.specs.SeenTests as tests
use Rattle.run_audit_model.specs.SeenTests.{TestNews, due_account, news_if}
use Rattle.run_audit_model.specs.Statuses.{compared_in, due_status}

-- what a told event tells of a test
abbrev pub test_news_in : TestEventKind → Option (TestInstanceId × TestNews)
test_news_in (kinds.TestStarted event) = Some (event.start.test.id, tests.began)
test_news_in (kinds.TestAttemptFailedWillRetry event) =
    Some (event.failed.test.id, tests.failed (due_status event.failed.status))
test_news_in (kinds.TestRetryStarted event) =
    Some (event.retry.start.test.id, tests.retried event.retry.attempt)
test_news_in (kinds.TestFinished event) =
    Some (event.finish.test.id, tests.finished (map due_status event.finish.statuses))
test_news_in (kinds.TestSkipped event) = Some (event.test.id, tests.skipped)
test_news_in _ = None

abbrev pub test_news : ReporterEvent → Option (TestInstanceId × TestNews)
test_news (Test event) = test_news_in event.kind
test_news Tick = None

-- what events tell of one test
abbrev pub account_told : TestInstanceId → List ReporterEvent → List TestNews
account_told test events = filter_map (λ e. news_if test (test_news e)) events

-- of a setup script
abbrev pub script_news_in : TestEventKind → Option ScriptNews
script_news_in (kinds.SetupScriptStarted event) = Some (scripts.began event.script.index)
script_news_in (kinds.SetupScriptFinished event) =
    Some (scripts.ended event.script.index (Some (compared_in (script_status_data event.status))))
script_news_in _ = None

abbrev pub script_news : ReporterEvent → Option ScriptNews
script_news (Test event) = script_news_in event.kind
script_news Tick = None

-- and of a cancel
abbrev pub cancel_news : ReporterEvent → Option (CancelReason × Bool)
cancel_news e = option_map (λ reason. (reason, kills e)) (reason_told e)

-- each ended sub-run of a plan that has each id once tells of each test what is due of it
abbrev pub AccountsWereTold : Type 0
AccountsWereTold = (p : Settings) (journal : List Entry)
    → IsDistinct is_one_test (map (λ test. test.id) p.plan.tests) → IsLegal p journal
    → All (λ run. (j : ℕ) (test : PlanTest) → slice_get p.plan.tests j ≡ Some test
    → account_told test.id (told run) ≡ due_account p run (unit_of_test p j)) (ended_runs (past_of p journal))

-- each tells of the setup scripts what is due of them
abbrev pub ScriptsWereTold : Type 0
ScriptsWereTold = (p : Settings) (journal : List Entry) → IsLegal p journal
    → All (λ run. filter_map script_news (told run) ≡ flat_map (due_script p run) (range_with_len 0 (scripts_in p)))
    (ended_runs (past_of p journal))

-- and each cancel that is due
abbrev pub CancelsWereTold : Type 0
CancelsWereTold = (p : Settings) (journal : List Entry) → IsLegal p journal
    → All (λ run. filter_map cancel_news (told run) ≡ map (λ reason. (reason, is_second (Some reason))) (raised run))
    (ended_runs (past_of p journal))

-- all that is told of a run that is over is what its sub-runs tell, in order
abbrev pub ToldIsJoined : Type 0
ToldIsJoined = (p : Settings) (journal : List Entry) → IsLegal p journal → is_over (past_of p journal) ≡ true
    → told (past_of p journal) ≡ flat_map told (reverse (ended_runs (past_of p journal)))
