-- The plan line of a wave.
use Rattle.std.specs.Prelude.{ℕ, List, [], ◌∷◌, map, Some, None, codes}
use Rattle.serde_json.specs.Data.{Data, Members, no_members, object, string}
use Rattle.serde_json.specs.Written.{compact_text}
use Rattle.uuid.specs.Text.{hyphenated_text, lower}
use Rattle.run_capture.specs.declared.test_output.CaptureStrategy.TheVariants.{Combined}
use Rattle.run_commands.specs.declared.interceptor.Interceptor.TheVariants as under
use Rattle.run_events.specs.declared.input.InputHandlerKind.TheVariants.{Noop}
use Rattle.run_events.specs.declared.plan.Plan.{Plan}
use Rattle.run_events.specs.declared.plan.PlanTest.{PlanTest}
use Rattle.run_events.specs.declared.retry_policy.MaxFail.TheVariants.{All}
use Rattle.run_events.specs.Usual.{usual_hearing, usual_plan, usual_test}
use Rattle.run_input.specs.declared.plan_line.RunnerKeys.{RunnerKeys}
use Rattle.run_output.specs.Fields.{array_of, count, object_of, put_all, texts}

-- a test, by its name and its command
abbrev pub test_object : PlanTest → Data
test_object test =
    object_of ((codes "binary", Some (string test.id.binary)) ∷ (codes "command", Some (texts test.command))
    ∷ (codes "name", Some (string test.id.name)) ∷ [])

-- what a plan line says before its tests: its capture, that it hears no key, and the id of its run
abbrev pub head_members : List ℕ → Members
head_members run_id =
    put_all ((codes "capture", Some (string (codes "combined"))) ∷ (codes "input", Some (string (codes "noop")))
    ∷ (codes "run_id", Some (string (hyphenated_text lower run_id))) ∷ []) no_members

-- a plan line of these tests, of which so many may run at a time, and its text
abbrev pub wave_object : ℕ → List ℕ → List PlanTest → Data
wave_object threads run_id tests =
    object (put_all ((codes "tests", Some (array_of test_object tests)) ∷ (codes "threads", Some (count threads)) ∷ [])
    (head_members run_id))

abbrev pub wave_text : ℕ → List ℕ → List PlanTest → List ℕ
wave_text threads run_id tests = compact_text (wave_object threads run_id tests)

-- what it sets of a runner
abbrev pub wave_keys : ℕ → RunnerKeys
wave_keys threads = record {
  capture = Combined;
  threads = Some threads;
  max_fail = All;
  stress = None;
  retries = None;
  flaky_result = None;
  interceptor = under.None;
  expected = None;
}

-- its plan: the same tests, as usual in all else, and no key is heard
abbrev pub plain_test : PlanTest → PlanTest
plain_test test = usual_test test.id test.command None

abbrev pub wave_plan : List ℕ → List PlanTest → Plan
wave_plan run_id tests =
    record (usual_plan run_id (map plain_test tests)) { hearing = record usual_hearing { input = Noop } }
