-- What is read of data at whose keys stands what an auditor sees.
use Rattle.std.proofs.Common.{◌≡◌, ℕ, ◌<◌, ◌^◌, Bool, List, Some, map, codes, refl}
use Rattle.serde_json.specs.Data.{Data}
use Rattle.serde_json.specs.Find.{get}
use Rattle.run_events.specs.declared.cancel.CancelReason.{CancelReason}
use Rattle.run_events.specs.declared.plan.TestInstanceId.{TestInstanceId}
use Rattle.run_events.specs.declared.plan.TestSlotAssignment.{TestSlotAssignment}
use Rattle.run_events.specs.declared.result.ExecuteStatus.{ExecuteStatus}
use Rattle.run_events.specs.declared.result.SetupScriptExecuteStatus.{SetupScriptExecuteStatus}
use Rattle.run_events.specs.declared.stats.RunStats.{RunStats}
use Rattle.run_output.specs.Fields.{array_of, count}
use Rattle.run_output.specs.Slots.{slot_data}
use Rattle.run_output.specs.Stats.{stats_data}
use Rattle.run_output.specs.Statuses.{script_status_data, status_data}
use Rattle.run_output.specs.Texts.{test_data}
use Rattle.run_audit_model.specs.Seen.{attempt_text, script_status_text}
use Rattle.run_audit_model.specs.declared.audit_event.AuditEvent.TheVariants as seen
use Rattle.run_audit_line.specs.EventLine.{attempt_failed_of, cancelled_of, retry_of, script_finished_of}
use Rattle.run_audit_line.specs.EventLine.{script_started_of, test_finished_of, test_skipped_of, test_started_of}
use Rattle.run_laws_audit_line.specs.EventLines.{IsSlot}
use Rattle.run_laws_audit_line.proofs.PartLemmas.{number_again, slot_again, stats_again, statuses_again}

pub started_read : (d : Data) (test : TestInstanceId) (slot : TestSlotAssignment)
    → get (codes "test") d ≡ Some (test_data test) → get (codes "slot") d ≡ Some (slot_data slot) → IsSlot slot
    → test_started_of d ≡ Some (seen.TestStarted test slot)
unfolding test_started_of
started_read d test slot at_test at_slot fits = rw (at_test, at_slot, slot_again slot fits) refl

pub failed_read : (d : Data) (test : TestInstanceId) (status : ExecuteStatus)
    → get (codes "test") d ≡ Some (test_data test) → get (codes "status") d ≡ Some (status_data status)
    → attempt_failed_of d ≡ Some (seen.AttemptFailed test (attempt_text status))
unfolding attempt_failed_of
failed_read d test status at_test at_status = rw (at_test, at_status) refl

pub retry_read : (d : Data) (test : TestInstanceId) (attempt : ℕ)
    → get (codes "test") d ≡ Some (test_data test) → get (codes "attempt") d ≡ Some (count attempt)
    → attempt < 2 ^ 32
    → retry_of d ≡ Some (seen.RetryStarted test attempt)
unfolding retry_of
retry_read d test attempt at_test at_attempt fits = rw (at_test, at_attempt, number_again attempt fits) refl

pub finished_read : (d : Data) (test : TestInstanceId) (statuses : List ExecuteStatus)
    → get (codes "test") d ≡ Some (test_data test)
    → get (codes "statuses") d ≡ Some (array_of status_data statuses)
    → test_finished_of d ≡ Some (seen.Finished test (map attempt_text statuses))
unfolding test_finished_of
finished_read d test statuses at_test at_statuses = rw (at_test, at_statuses, statuses_again statuses) refl

pub skipped_read : (d : Data) (test : TestInstanceId) → get (codes "test") d ≡ Some (test_data test)
    → test_skipped_of d ≡ Some (seen.Skipped test)
unfolding test_skipped_of
skipped_read d test at_test = rw at_test refl

pub script_started_read : (d : Data) (index : ℕ) → get (codes "index") d ≡ Some (count index) → index < 2 ^ 32
    → script_started_of d ≡ Some (seen.ScriptStarted index)
unfolding script_started_of
script_started_read d index at_index fits = rw (at_index, number_again index fits) refl

pub script_finished_read : (d : Data) (index : ℕ) (status : SetupScriptExecuteStatus)
    → get (codes "index") d ≡ Some (count index) → get (codes "status") d ≡ Some (script_status_data status)
    → index < 2 ^ 32 → script_finished_of d ≡ Some (seen.ScriptFinished index (script_status_text status))
unfolding script_finished_of
script_finished_read d index status at_index at_status fits =
    rw (at_index, at_status, number_again index fits) refl

pub cancelled_read : (d : Data) (stats : RunStats) (reason : CancelReason) (kill : Bool)
    → get (codes "stats") d ≡ Some (stats_data stats) → stats.cancel_reason ≡ Some reason
    → cancelled_of kill d ≡ Some (seen.Cancel reason kill)
unfolding cancelled_of
cancelled_read d stats reason kill at_stats is = rw (at_stats, stats_again stats reason is) refl
