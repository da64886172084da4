-- The object of an event nests no deeper than a reader goes.
use Rattle.std.proofs.Common.{◌≤◌, Option, option_map, arith, IfSome}
use Rattle.serde_json.specs.Data.{depth}
use Rattle.serde_json.specs.Read.{max_depth}
use Rattle.run_events.specs.declared.events.ReporterEvent.{ReporterEvent}
use Rattle.run_events.specs.declared.events.ReporterEvent.TheVariants as told
use Rattle.run_events.specs.declared.events.RunFinishedStats.{RunFinishedStats}
use Rattle.run_events.specs.declared.events.RunFinishedStats.TheVariants.{Single, Stress}
use Rattle.run_events.specs.declared.events.TestEventKind.{TestEventKind}
use Rattle.run_events.specs.declared.events.TestEventKind.TheVariants as kinds
use Rattle.run_events.specs.declared.info.InfoSubject.{InfoSubject}
use Rattle.run_events.specs.declared.info.InfoSubject.TheVariants.{Test, Script}
use Rattle.run_events.specs.declared.stress.StressIndex.{StressIndex}
use Rattle.run_output.specs.Events.{event_fields, kind_fields}
use Rattle.run_output.specs.EventsOfInfo.{info_answered_fields, info_finished_fields, info_started_fields}
use Rattle.run_output.specs.EventsOfInfo.{subject_fields}
use Rattle.run_output.specs.EventsOfRun.{input_entered_fields, job_controlled_fields, run_cancelled_fields}
use Rattle.run_output.specs.EventsOfRun.{run_finished_fields, run_started_fields, single_data, sub_run_finished_fields}
use Rattle.run_output.specs.EventsOfRun.{sub_run_started_fields, sub_runs_data}
use Rattle.run_output.specs.EventsOfScripts.{script_finished_fields, script_slow_fields, script_started_fields}
use Rattle.run_output.specs.EventsOfTests.{attempt_failed_fields, retry_started_fields, test_finished_fields}
use Rattle.run_output.specs.EventsOfTests.{test_skipped_fields, test_slow_fields, test_started_fields}
use Rattle.run_output.specs.Field.{not_seen_data}
use Rattle.run_output.specs.Statuses.{status_data}
use Rattle.run_output.specs.Stress.{condition_data, index_data}
use Rattle.run_text_laws.specs.Objects.{AreShallow}
use Rattle.run_text_laws.proofs.ObjectLemmas.{has_fields}
use Rattle.run_laws_audit_line.specs.EventLines.{event_data}
use Rattle.run_laws_audit_line.proofs.ShallowLemmas.{array_low, condition_low, index_low, not_seen_low, option_low}
use Rattle.run_laws_audit_line.proofs.ShallowLemmas.{progress_low, script_status_low, shown_low, slot_low, state_low}
use Rattle.run_laws_audit_line.proofs.ShallowLemmas.{stats_low, status_low, stress_stats_low, test_low, texts_low}

stress_low : (index : Option StressIndex) → IfSome (option_map index_data index) (λ d. depth d ≤ 4)
stress_low index = option_low 4 index_data (λ i. omega (arith, index_low i)) index

single_low : (stats : RunFinishedStats) → IfSome (single_data stats) (λ d. depth d ≤ 4)
single_low (Single stats) = omega (arith, stats_low stats)
single_low (Stress stats) = tt

sub_runs_low : (stats : RunFinishedStats) → IfSome (sub_runs_data stats) (λ d. depth d ≤ 4)
sub_runs_low (Single stats) = tt
sub_runs_low (Stress stats) = omega (arith, stress_stats_low stats)

subject_low : (subject : InfoSubject) → AreShallow 4 (subject_fields subject)
unfolding subject_fields
subject_low (Test test attempt attempts) =
    (omega arith, (omega arith, (stress_low test.stress_index, (omega (arith, test_low test.id), tt))))
subject_low (Script script) = (omega arith, (stress_low script.stress_index, tt))

-- the fields of each kind
kind_low : (kind : TestEventKind) → AreShallow 4 (kind_fields kind)
unfolding run_started_fields sub_run_started_fields sub_run_finished_fields script_started_fields script_slow_fields
    script_finished_fields test_started_fields test_slow_fields attempt_failed_fields retry_started_fields
    test_finished_fields test_skipped_fields info_started_fields info_answered_fields info_finished_fields
    input_entered_fields run_cancelled_fields job_controlled_fields run_finished_fields
kind_low (kinds.RunStarted event) = (
  omega (arith, texts_low event.args),
  (
    omega arith,
    (
      omega arith,
      (option_low 4 condition_data (λ c. omega (arith, condition_low c)) event.stress, (omega arith, tt)),
    ),
  ),
)
kind_low (kinds.StressSubRunStarted progress) = (omega (arith, progress_low progress), tt)
kind_low (kinds.StressSubRunFinished event) =
    (omega (arith, progress_low event.progress), (omega (arith, stats_low event.stats), (omega arith, tt)))
kind_low (kinds.SetupScriptStarted event) = (
  omega (arith, texts_low event.command),
  (
    omega arith,
    (
      omega arith,
      (
        omega arith,
        (stress_low event.script.stress_index, (omega arith, tt)),
      ),
    ),
  ),
)
kind_low (kinds.SetupScriptSlow event) =
    (omega arith, (omega arith, (stress_low event.script.stress_index, (omega arith, tt))))
kind_low (kinds.SetupScriptFinished event) = (
  omega arith,
  (
    omega arith,
    (
      omega arith,
      (
        omega (arith, script_status_low event.status),
        (stress_low event.script.stress_index, (omega arith, tt)),
      ),
    ),
  ),
)
kind_low (kinds.TestStarted event) = (
  omega (arith, texts_low event.start.command),
  (
    omega arith,
    (
      omega (arith, slot_low event.start.slot),
      (
        omega (arith, stats_low event.stats),
        (
          stress_low event.start.test.stress_index,
          (omega (arith, test_low event.start.test.id), tt),
        ),
      ),
    ),
  ),
)
kind_low (kinds.TestSlow event) = (
  omega arith,
  (
    omega arith,
    (
      omega arith,
      (
        stress_low event.test.stress_index,
        (
          omega arith,
          (omega (arith, test_low event.test.id), tt),
        ),
      ),
    ),
  ),
)
kind_low (kinds.TestAttemptFailedWillRetry event) = (
  omega arith,
  (
    omega arith,
    (
      omega (arith, status_low event.failed.status),
      (stress_low event.failed.test.stress_index, (omega (arith, test_low event.failed.test.id), tt)),
    ),
  ),
)
kind_low (kinds.TestRetryStarted event) = (
  omega arith,
  (
    omega arith,
    (
      omega (arith, texts_low event.retry.start.command),
      (
        omega arith,
        (
          omega (arith, slot_low event.retry.start.slot),
          (
            stress_low event.retry.start.test.stress_index,
            (omega (arith, test_low event.retry.start.test.id), tt),
          ),
        ),
      ),
    ),
  ),
)
kind_low (kinds.TestFinished event) = (
  omega arith,
  (
    omega (arith, stats_low event.stats),
    (
      array_low 3 status_data status_low event.finish.statuses,
      (stress_low event.finish.test.stress_index, (omega (arith, test_low event.finish.test.id), tt)),
    ),
  ),
)
kind_low (kinds.TestSkipped event) =
    (omega arith, (stress_low event.test.stress_index, (omega (arith, test_low event.test.id), tt)))
kind_low (kinds.InfoStarted event) = (omega arith, (omega (arith, stats_low event.stats), (omega arith, tt)))
kind_low (kinds.InfoResponse event) = (
  omega arith,
  (
    omega (arith, shown_low event.response.state event.response.output),
    (omega (arith, state_low event.response.state), (omega arith, subject_low event.response.subject)),
  ),
)
kind_low (kinds.InfoFinished missing) = (omega arith, tt)
kind_low (kinds.InputEnter event) = (omega arith, (omega (arith, stats_low event.stats), tt))
kind_low (kinds.RunBeginCancel event) = (omega arith, (omega arith, (omega (arith, stats_low event.stats), tt)))
kind_low (kinds.RunBeginKill event) = (omega arith, (omega arith, (omega (arith, stats_low event.stats), tt)))
kind_low (kinds.RunPaused event) = (omega arith, (omega arith, tt))
kind_low (kinds.RunContinued event) = (omega arith, (omega arith, tt))
kind_low (kinds.RunFinished event) = (
  option_low 4 not_seen_data (λ tests. omega (arith, not_seen_low tests)) event.not_seen,
  (
    single_low event.stats,
    (sub_runs_low event.stats, tt),
  ),
)

-- so the object
pub event_low : (e : ReporterEvent) → depth (event_data e) ≤ max_depth
unfolding event_fields
event_low told.Tick = omega arith
event_low (told.Test event) =
    let low : depth (event_data (told.Test event)) ≤ 5 =
    (has_fields (event_fields event)).shallow 4 (omega arith, (omega arith, (omega arith, kind_low event.kind))) in
    omega (arith, low)
