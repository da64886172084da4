-- The variables that a child gets.
use Rattle.std.specs.Prelude.{ℕ, List, [], ◌∷◌, ◌++◌, Option, Some, None, codes, decimal}
use Rattle.run_commands.specs.Pair.{Pair}
use Rattle.uuid.specs.Text.{hyphenated_text, lower}
use Rattle.run_events.specs.declared.plan.GroupSlot.{GroupSlot}
use Rattle.run_events.specs.declared.retry_policy.RunMode.{RunMode}
use Rattle.run_events.specs.declared.retry_policy.RunMode.TheVariants as modes
use Rattle.run_events.specs.declared.stress.StressIndex.{StressIndex}
use Rattle.run_events.specs.declared.variables.RunContext.{RunContext}
use Rattle.run_events.specs.declared.variables.ScriptVariables.{ScriptVariables}
use Rattle.run_events.specs.declared.variables.TestVariables.{TestVariables}
use Rattle.run_events.specs.declared.variables.Kept.{Kept}
use Rattle.run_events.specs.declared.variables.Kept.TheVariants as kept

-- what the tests of a run are run as
abbrev pub mode_name : RunMode → List ℕ
mode_name modes.Test = codes "test"
mode_name modes.Benchmark = codes "benchmark"

-- the variables of which run it is
abbrev pub run_variables : RunContext → List Pair
run_variables run =
    (codes "NEXTEST_RUN_ID", hyphenated_text lower run.run_id) ∷ (codes "NEXTEST_RUN_MODE", mode_name run.mode) ∷ []

-- how much runs at a time, and in which folder
abbrev pub shared_variables : RunContext → List Pair
shared_variables run =
    (codes "NEXTEST_TEST_THREADS", decimal run.threads) ∷ (codes "NEXTEST_WORKSPACE_ROOT", run.workspace_root) ∷ []

-- which attempt of which test it is
unfoldable pub identity_variables : TestVariables → List Pair
identity_variables t =
    (codes "NEXTEST_BINARY_ID", t.id.binary)
    ∷ (codes "NEXTEST_TEST_NAME", t.id.name)
    ∷ (codes "NEXTEST_ATTEMPT", decimal t.attempt)
    ∷ (codes "NEXTEST_TOTAL_ATTEMPTS", decimal t.attempts)
    ∷ []

-- the group that it runs in, and its slot there
abbrev pub group_name : Option GroupSlot → List ℕ
group_name (Some group) = group.name
group_name None = codes "@global"

abbrev pub group_number : Option GroupSlot → List ℕ
group_number (Some group) = decimal group.slot
group_number None = codes "none"

-- which sub-run of a stress run it is in, and how many there are to be
abbrev pub stress_current : Option StressIndex → List ℕ
stress_current (Some index) = decimal index.current
stress_current None = codes "none"

abbrev pub count_text : Option ℕ → List ℕ
count_text (Some count) = decimal count
count_text None = codes "unknown"

abbrev pub stress_total : Option StressIndex → List ℕ
stress_total (Some index) = count_text index.total
stress_total None = codes "none"

-- where it runs
unfoldable pub place_variables : TestVariables → List Pair
place_variables t =
    (codes "NEXTEST_STRESS_CURRENT", stress_current t.stress_index)
    ∷ (codes "NEXTEST_STRESS_TOTAL", stress_total t.stress_index)
    ∷ (codes "NEXTEST_TEST_GLOBAL_SLOT", decimal t.slot.global)
    ∷ (codes "NEXTEST_TEST_GROUP", group_name t.slot.group)
    ∷ (codes "NEXTEST_TEST_GROUP_SLOT", group_number t.slot.group)
    ∷ []

-- the variables of a test's child, in order: last come the versions, and what its scripts handed on
unfoldable pub test_variables : TestVariables → List Pair
test_variables t =
    run_variables t.run ++ (identity_variables t ++ (place_variables t ++ (shared_variables t.run
    ++ (t.run.versions ++ t.handed))))

-- those of a script's child: first comes the file where it writes what it hands on
unfoldable pub script_variables : ScriptVariables → List Pair
script_variables s =
    (codes "NEXTEST_ENV", s.env_path) ∷ run_variables s.run ++ (shared_variables s.run ++ s.run.versions)

-- variables by what is kept of them
abbrev pub variables_kept : Kept → List Pair
variables_kept (kept.Test t) = test_variables t
variables_kept (kept.Script s) = script_variables s
variables_kept (kept.Listed list) = list
