-- What is seen of a told event, with plain statuses, is what it tells.
use Rattle.std.proofs.Common.{◌≡◌, List, map, Option, Some, None, filter_map, refl, ap, ◌∙◌}
use Rattle.std.specs.List.{All}
use Rattle.run_events.specs.declared.cancel.CancelReason.{CancelReason}
use Rattle.run_events.specs.declared.events.ReporterEvent.{ReporterEvent}
use Rattle.run_events.specs.declared.events.ReporterEvent.TheVariants.{Tick, Test}
use Rattle.run_events.specs.declared.events.TestEventKind.{TestEventKind}
use Rattle.run_events.specs.declared.events.TestEventKind.TheVariants as kinds
use Rattle.run_events.specs.declared.plan.TestInstanceId.{TestInstanceId}
use Rattle.run_audit_model.specs.Seen.{as_audited, audited_kind, cancel_seen}
use Rattle.run_audit_model.specs.SeenScripts.{ended, seen_script}
use Rattle.run_audit_model.specs.SeenTests.{failed, finished, news_if, seen_account, seen_test}
use Rattle.run_laws_audit.specs.Due.{account_told, script_news, script_news_in, test_news, test_news_in}
use Rattle.run_laws_audit.specs.Plain.{HasPlainStatus, HasPlainStatusIn}
use Rattle.run_laws_audit.proofs.KeptLemmas.{kept_same, kept_seen}
use Rattle.run_laws_audit.proofs.StatusLemmas.{script_read, status_read, statuses_read}
use Rattle.std.proofs.Common.{Bool}

-- no cancel tells of a test, nor of a script
pub cancel_test : (why : Option CancelReason) (kill : Bool) → seen_test (cancel_seen why kill) ≡ None
cancel_test None kill = refl
cancel_test (Some reason) kill = refl

cancel_script : (why : Option CancelReason) (kill : Bool) → seen_script (cancel_seen why kill) ≡ None
cancel_script None kill = refl
cancel_script (Some reason) kill = refl

-- what is seen of a test
test_kind : (kind : TestEventKind) → HasPlainStatusIn kind → seen_test (audited_kind kind) ≡ test_news_in kind
test_kind (kinds.TestAttemptFailedWillRetry event) plain =
    ap (λ c. Some (event.failed.test.id, failed c)) (status_read event.failed.status plain)
test_kind (kinds.TestFinished event) plain =
    ap (λ cs. Some (event.finish.test.id, finished cs)) (statuses_read event.finish.statuses plain)
test_kind (kinds.RunBeginCancel event) plain = cancel_test event.stats.cancel_reason Bool.false
test_kind (kinds.RunBeginKill event) plain = cancel_test event.stats.cancel_reason Bool.true
test_kind kind plain = refl

test_event : (e : ReporterEvent) → HasPlainStatus e → seen_test (as_audited e) ≡ test_news e
test_event Tick plain = refl
test_event (Test event) plain = test_kind event.kind plain

pub account_read : (test : TestInstanceId) (events : List ReporterEvent) → All HasPlainStatus events
    → seen_account test (map as_audited events) ≡ account_told test events
account_read test events plain =
    kept_seen (λ e. news_if test (seen_test e)) as_audited events
    ∙ kept_same (λ e. news_if test (seen_test (as_audited e))) (λ e. news_if test (test_news e)) events
    (λ i d low. ap (news_if test) (test_event _ (plain i d low)))

-- and of scripts
script_kind : (kind : TestEventKind) → HasPlainStatusIn kind → seen_script (audited_kind kind) ≡ script_news_in kind
script_kind (kinds.SetupScriptFinished event) plain =
    ap (λ c. Some (ended event.script.index c)) (script_read event.status plain)
script_kind (kinds.RunBeginCancel event) plain = cancel_script event.stats.cancel_reason Bool.false
script_kind (kinds.RunBeginKill event) plain = cancel_script event.stats.cancel_reason Bool.true
script_kind kind plain = refl

script_event : (e : ReporterEvent) → HasPlainStatus e → seen_script (as_audited e) ≡ script_news e
script_event Tick plain = refl
script_event (Test event) plain = script_kind event.kind plain

pub scripts_read : (events : List ReporterEvent) → All HasPlainStatus events
    → filter_map seen_script (map as_audited events) ≡ filter_map script_news events
scripts_read events plain =
    kept_seen seen_script as_audited events
    ∙ kept_same (λ e. seen_script (as_audited e)) script_news events (λ i d low. script_event _ (plain i d low))
