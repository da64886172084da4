-- The plan of a wave.
use Rattle.std.specs.Prelude.{ℕ, List, [], ◌∷◌, map, filter_map, slice_get, Option, Some, None, codes}
use Rattle.run_capture.specs.declared.test_output.CaptureStrategy.TheVariants.{Combined}
use Rattle.run_commands.specs.declared.interceptor.Interceptor.TheVariants as interceptors
use Rattle.run_events.specs.declared.input.InputHandlerKind.TheVariants.{Noop}
use Rattle.run_events.specs.declared.plan.Plan.{Plan}
use Rattle.run_events.specs.declared.plan.PlanTest.{PlanTest}
use Rattle.run_events.specs.declared.retry_policy.MaxFail.TheVariants.{All}
use Rattle.run_events.specs.declared.settings.Settings.{Settings}
use Rattle.run_events.specs.Usual.{usual_hearing, usual_plan, usual_test}
use Rattle.run_engine.specs.Builder.{Builder, settings_of}
use Rattle.run_jobs.specs.declared.job.Job.{Job}
use Rattle.run_jobs.specs.declared.job.JobState.{JobState}
use Rattle.run_jobs.specs.Jobs.{Batch}
use Rattle.run_jobs.specs.States.{ready_jobs}

-- the test that a job is: of the binary `job`, with its name and its command, and all else as usual
abbrev pub test_of_job : Job → PlanTest
test_of_job job = usual_test (record { binary = codes "job"; name = job.name }) job.command None

-- the tests that some jobs are
abbrev pub tests_of_jobs : List Job → List ℕ → List PlanTest
tests_of_jobs jobs ks = map test_of_job (filter_map (slice_get jobs) ks)

-- the plan of a wave of these jobs: no key is heard, and all else is as usual
abbrev pub plan_of_jobs : Batch → List ℕ → Plan
plan_of_jobs batch ks =
    record (usual_plan batch.run_id (tests_of_jobs batch.jobs ks)) { hearing = record usual_hearing { input = Noop } }

-- what is set of its runner: output is captured combined, so many jobs run at a time, and all else is as usual
abbrev pub wave_builder : ℕ → Builder
wave_builder threads = record {
  capture = Combined;
  threads = Some threads;
  max_fail = All;
  retries = None;
  flaky_result = None;
  interceptor = interceptors.None;
  stress = None;
  expected = None;
}

-- the settings of a wave of these jobs
abbrev pub wave_settings : Batch → List ℕ → Settings
wave_settings batch ks = settings_of (wave_builder batch.threads) (plan_of_jobs batch ks)

-- the runner's settings and the plan of a wave of these jobs, where there are any
abbrev pub wave_with : Batch → List ℕ → Option (Builder × Plan)
wave_with batch [] = None
wave_with batch (k ∷ ks) = Some (wave_builder batch.threads, plan_of_jobs batch (k ∷ ks))

-- those of the ready jobs of a level
abbrev pub wave_of : Batch → List (Option JobState) → ℕ → Option (Builder × Plan)
wave_of batch states level = wave_with batch (ready_jobs batch.jobs states level)
