-- The plan of a generated run, and its settings.
use Rattle.std.specs.Prelude.{ℕ, pos, ◌+◌, ◌%◌, ◌==◌, List, [], ◌∷◌, ◌++◌, map, Option, Some, None, if◌then◌else◌}
use Rattle.std.specs.Prelude.{codes}
use Rattle.std.specs.Prelude.{decimal, false}
use Rattle.std.specs.List.{range_with_len}
use Rattle.uuid.specs.Parts.{zero_bytes}
use Rattle.run_capture.specs.declared.test_output.CaptureStrategy.TheVariants.{Combined}
use Rattle.run_commands.specs.declared.interceptor.Interceptor.TheVariants as interceptors
use Rattle.run_events.specs.Usual.{usual_plan, usual_test}
use Rattle.run_events.specs.declared.plan.Group.{Group}
use Rattle.run_events.specs.declared.plan.Plan.{Plan}
use Rattle.run_events.specs.declared.plan.PlanTest.{PlanTest}
use Rattle.run_events.specs.declared.plan.TestInstanceId.{TestInstanceId}
use Rattle.run_events.specs.declared.retry_policy.MaxFail.TheVariants.{All}
use Rattle.run_events.specs.declared.retry_policy.RetryPolicy.{RetryPolicy}
use Rattle.run_events.specs.declared.retry_policy.RetryPolicy.TheVariants.{Fixed}
use Rattle.run_events.specs.declared.settings.Settings.{Settings}
use Rattle.run_engine.specs.Builder.{Builder, settings_of}

-- the id of the test of a number
abbrev pub id_at : ℕ → TestInstanceId
id_at i = record { binary = codes "gen"; name = codes "t" ++ decimal i }

-- why it is skipped: each eleventh is
abbrev pub skip_at : ℕ → Option (List ℕ)
skip_at i = if i % 11 == 10 then Some (codes "gen") else None

-- its group: each fifth is in the one
abbrev pub group_at : ℕ → Option (List ℕ)
group_at i = if i % 5 == 0 then Some (codes "g") else None

-- how often it is tried again: each seventh once, with no delay
abbrev pub retries_at : ℕ → RetryPolicy
retries_at i = Fixed (if i % 7 == 3 then 1 else 0) 0 false

-- the test of a number
abbrev pub test_at : ℕ → PlanTest
test_at i = record (usual_test (id_at i) (codes "x" ∷ []) (skip_at i)) {
  weight = 1 + i % 3;
  group = group_at i;
  retries = retries_at i;
}

-- the one group
abbrev pub the_group : Group
the_group = record { name = codes "g"; limit = 4 }

-- the plan of so many tests
abbrev pub generated_plan : ℕ → Plan
generated_plan n = record (usual_plan zero_bytes (map test_at (range_with_len 0 n))) { groups = the_group ∷ [] }

-- what is set of its runner, and the settings of its run
abbrev pub generated_builder : Builder
generated_builder = record {
  capture = Combined;
  threads = Some 16;
  max_fail = All;
  retries = None;
  flaky_result = None;
  interceptor = interceptors.None;
  stress = None;
  expected = None;
}

abbrev pub generated_settings : ℕ → Settings
generated_settings n = settings_of generated_builder (generated_plan n)
