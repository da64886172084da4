-- What stands in the object of an event nests at most four deep.
use Rattle.std.proofs.Common.{ℕ, zero, suc, ◌≤◌, List, [], ◌∷◌, ◌++◌, map, Option, Some, None}
use Rattle.std.proofs.Common.{option_map, arith, IfSome, codes}
use Rattle.serde_json.specs.Data.{Data, depth, items_depth, string}
use Rattle.serde_json.specs.View.{items_of}
use Rattle.run_commands.specs.declared.stress_count.StressCondition.{StressCondition}
use Rattle.run_commands.specs.declared.stress_count.StressCondition.TheVariants as condition
use Rattle.run_capture.specs.declared.test_output.ChildOutput.TheVariants.{Split, Combined}
use Rattle.run_events.specs.declared.info.UnitState.{UnitState}
use Rattle.run_events.specs.declared.info.UnitState.TheVariants.{Running, Terminating, Exiting, Exited, Delay}
use Rattle.run_commands.specs.declared.errors.SetupScriptOutputError.{SetupScriptOutputError}
use Rattle.run_events.specs.declared.events.TestsNotSeen.{TestsNotSeen}
use Rattle.run_events.specs.declared.plan.TestInstanceId.{TestInstanceId}
use Rattle.run_events.specs.declared.plan.TestSlotAssignment.{TestSlotAssignment}
use Rattle.run_events.specs.declared.result.ChildExecutionOutput.{ChildExecutionOutput}
use Rattle.run_events.specs.declared.result.ChildExecutionOutput.TheVariants.{Output, StartError}
use Rattle.run_events.specs.declared.result.ExecuteStatus.{ExecuteStatus}
use Rattle.run_events.specs.declared.result.ScriptEnv.{ScriptEnv}
use Rattle.run_events.specs.declared.result.ScriptEnv.TheVariants.{Unread, Variables, Fault}
use Rattle.run_events.specs.declared.result.SetupScriptExecuteStatus.{SetupScriptExecuteStatus}
use Rattle.run_events.specs.declared.stats.RunStats.{RunStats}
use Rattle.run_events.specs.declared.stress.StressIndex.{StressIndex}
use Rattle.run_events.specs.declared.stress.StressProgress.{StressProgress}
use Rattle.run_events.specs.declared.stress.StressProgress.TheVariants as progress
use Rattle.run_events.specs.declared.stress.StressRunStats.{StressRunStats}
use Rattle.run_output.specs.Errors.{child_errors, errors_data, fault_errors}
use Rattle.run_output.specs.Field.{not_seen_data, not_seen_fields}
use Rattle.run_output.specs.Fields.{array_of, count, nonzero, object_of, pair, texts}
use Rattle.run_output.specs.Info.{output_data, shown_data, state_data, state_fields}
use Rattle.run_output.specs.Slots.{slot_data, slot_fields}
use Rattle.run_output.specs.Stats.{reason_word, script_count_fields, stats_data, stats_fields, test_fields}
use Rattle.run_output.specs.Statuses.{attempt_fields, env_data, script_fields, script_status_data, status_data}
use Rattle.run_output.specs.Statuses.{stream_fields}
use Rattle.run_output.specs.Stress.{condition_data, condition_fields, ended_fields, index_data, index_fields}
use Rattle.run_output.specs.Stress.{progress_data, progress_fields, stress_stats_data}
use Rattle.run_output.specs.Texts.{bytes_data, result_text, test_data}
use Rattle.run_text_laws.specs.Objects.{AreShallow}
use Rattle.run_text_laws.proofs.ObjectLemmas.{has_fields}

-- a value that may be missing
pub option_low : {X : Type 0} → (n : ℕ) (f : X → Data) → ((x : X) → depth (f x) ≤ n) → (o : Option X)
    → IfSome (option_map f o) (λ d. depth d ≤ n)
option_low n f low None = tt
option_low n f low (Some x) = low x

count_low : (n : ℕ) → IfSome (nonzero n) (λ d. depth d ≤ 0)
unfolding nonzero
count_low zero = tt
count_low (suc n) = omega arith

-- an object nests one deeper than its fields
object_low : (n : ℕ) (fields : List (List ℕ × Option Data)) → AreShallow n fields → depth (object_of fields) ≤ suc n
object_low n fields low = (has_fields fields).shallow n low

-- an array, than its items
items_low : {X : Type 0} → (n : ℕ) (f : X → Data) → ((x : X) → depth (f x) ≤ n) → (xs : List X)
    → items_depth (items_of (map f xs)) ≤ n
items_low n f low [] = omega arith
items_low n f low (x ∷ xs) = omega (arith, low x, items_low n f low xs)

pub array_low : {X : Type 0} → (n : ℕ) (f : X → Data) → ((x : X) → depth (f x) ≤ n) → (xs : List X)
    → depth (array_of f xs) ≤ suc n
array_low n f low xs = omega (arith, items_low n f low xs)

pub texts_low : (list : List (List ℕ)) → depth (texts list) ≤ 1
texts_low list = array_low 0 string (λ text. omega arith) list

pub test_low : (test : TestInstanceId) → depth (test_data test) ≤ 1
test_low test = texts_low (test.binary ∷ test.name ∷ [])

errors_low : (errors : List (List ℕ)) → IfSome (errors_data errors) (λ d. depth d ≤ 2)
errors_low [] = tt
errors_low (error ∷ errors) = omega (arith, items_low 0 string (λ text. omega arith) errors)

env_low : (env : ScriptEnv) → IfSome (env_data env) (λ d. depth d ≤ 2)
env_low Unread = tt
env_low (Variables pairs) = array_low 1 pair (λ texts_of_pair. omega arith) pairs
env_low (Fault fault) = tt

streams_low : (output : ChildExecutionOutput) → AreShallow 2 (stream_fields output)
unfolding stream_fields
streams_low (Output (Split split) errors) = (
  option_low 2 bytes_data (λ b. omega arith) split.stderr,
  (option_low 2 bytes_data (λ b. omega arith) split.stdout, tt),
)
streams_low (Output (Combined output) errors) = (omega arith, tt)
streams_low (StartError error) = (omega arith, tt)

-- statuses
pub status_low : (status : ExecuteStatus) → depth (status_data status) ≤ 3
unfolding attempt_fields
status_low status =
    object_low 2 (attempt_fields status ++ stream_fields status.output) (
      omega arith,
      (
        omega arith,
        (
          omega arith,
          (
            errors_low _,
            (
              omega arith,
              (
                omega arith,
                (
                  omega arith,
                  (omega arith, streams_low status.output),
                ),
              ),
            ),
          ),
        ),
      ),
    )

pub script_status_low : (status : SetupScriptExecuteStatus) → depth (script_status_data status) ≤ 3
unfolding script_fields
script_status_low status =
    object_low 2 (script_fields status ++ stream_fields status.output) (
      env_low status.env,
      (
        errors_low _,
        (
          omega arith,
          (
            omega arith,
            (
              omega arith,
              (omega arith, streams_low status.output),
            ),
          ),
        ),
      ),
    )

-- slots and statistics
pub slot_low : (slot : TestSlotAssignment) → depth (slot_data slot) ≤ 1
unfolding slot_fields
slot_low slot =
    object_low 0 (slot_fields slot) (
      omega arith,
      (
        option_low 0 (λ g. count g.slot) (λ g. omega arith) slot.group,
        (option_low 0 (λ g. string g.name) (λ g. omega arith) slot.group, tt),
      ),
    )

join_low : (n : ℕ) (fields more : List (List ℕ × Option Data)) → AreShallow n fields → AreShallow n more
    → AreShallow n (fields ++ more)
join_low n [] more low others = others
join_low n (field ∷ fields) more low others = (low.0, join_low n fields more low.1 others)

reason_low : (stats : RunStats)
    → IfSome (option_map (λ r. string (reason_word r)) stats.cancel_reason) (λ d. depth d ≤ 0)
reason_low stats = option_low 0 (λ r. string (reason_word r)) (λ r. omega arith) stats.cancel_reason

script_counts_low : (stats : RunStats) → AreShallow 0 (script_count_fields stats)
unfolding script_count_fields
script_counts_low stats =
    let n = count_low in
    (n _, (n _, (n _, (n _, (n _, (n _, (n _, (n _, tt))))))))

test_counts_low : (stats : RunStats) → AreShallow 0 (test_fields stats)
unfolding test_fields
test_counts_low stats =
    let n = count_low in
    (n _, (n _, (n _, (n _, (n _, (n _, (n _, (n _, (n _, (n _, (n _, (reason_low stats, tt))))))))))))

pub stats_low : (stats : RunStats) → depth (stats_data stats) ≤ 1
stats_low stats =
    object_low 0 (stats_fields stats)
    (join_low 0 (script_count_fields stats) (test_fields stats) (script_counts_low stats) (test_counts_low stats))

-- what belongs to a stress run
pub condition_low : (c : StressCondition) → depth (condition_data c) ≤ 1
unfolding condition_fields
condition_low (condition.Count runs) = object_low 0 (condition_fields (condition.Count runs)) (omega arith, tt)
condition_low (condition.Duration time) = object_low 0 (condition_fields (condition.Duration time)) (omega arith, tt)

pub index_low : (index : StressIndex) → depth (index_data index) ≤ 1
unfolding index_fields
index_low index =
    object_low 0 (index_fields index) (
      omega arith,
      (option_low 0 count (λ n. omega arith) index.total, tt),
    )

pub progress_low : (p : StressProgress) → depth (progress_data p) ≤ 1
unfolding progress_fields
progress_low (progress.Count total elapsed completed) =
    object_low 0 (progress_fields (progress.Count total elapsed completed)) (omega arith, (omega arith, tt))
progress_low (progress.Time total elapsed completed) =
    object_low 0 (progress_fields (progress.Time total elapsed completed)) (omega arith, (omega arith, tt))

pub stress_stats_low : (stats : StressRunStats) → depth (stress_stats_data stats) ≤ 2
unfolding ended_fields
stress_stats_low stats =
    object_low 1 ((codes "completed", Some (index_data stats.completed)) ∷ ended_fields stats)
    (index_low stats.completed, (omega arith, (omega arith, (omega arith, tt))))

-- tests that weren't seen
pub not_seen_low : (tests : TestsNotSeen) → depth (not_seen_data tests) ≤ 3
unfolding not_seen_fields
not_seen_low tests =
    object_low 2 (not_seen_fields tests) (array_low 1 test_data test_low tests.not_seen, (omega arith, tt))

-- what a unit answers
pub state_low : (state : UnitState) → depth (state_data state) ≤ 1
unfolding state_fields
state_low (Running pid time slow_after) =
    object_low 0 (state_fields (Running pid time slow_after))
    (omega arith, (omega arith, (option_low 0 count (λ n. omega arith) slow_after, (omega arith, tt))))
state_low (Terminating pid time reason method waiting) =
    object_low 0 (state_fields (Terminating pid time reason method waiting))
    (omega arith, (omega arith, (omega arith, (omega arith, (omega arith, (omega arith, (omega arith, tt)))))))
state_low (Exiting pid time slow_after outcome waiting) =
    object_low 0 (state_fields (Exiting pid time slow_after outcome waiting)) (
      omega arith,
      (
        omega arith,
        (
          omega arith,
          (
            option_low 0 (λ r. string (result_text r)) (λ r. omega arith) outcome,
            (option_low 0 count (λ n. omega arith) slow_after, (omega arith, (omega arith, tt))),
          ),
        ),
      ),
    )
state_low (Exited outcome time slow_after fault) =
    object_low 0 (state_fields (Exited outcome time slow_after fault))
    (omega arith, (omega arith, (option_low 0 count (λ n. omega arith) slow_after, (omega arith, tt))))
state_low (Delay outcome slow waiting) =
    object_low 0 (state_fields (Delay outcome slow waiting))
    (omega arith, (omega arith, (omega arith, (omega arith, (omega arith, tt)))))

output_low : (child : ChildExecutionOutput) (fault : Option SetupScriptOutputError)
    → depth (output_data child fault) ≤ 3
output_low child fault =
    object_low 2 ((codes "errors", errors_data (child_errors child ++ fault_errors fault)) ∷ stream_fields child)
    (errors_low _, streams_low child)

pub shown_low : (state : UnitState) (child : ChildExecutionOutput) → depth (shown_data state child) ≤ 3
shown_low (Running pid time slow_after) child = output_low child None
shown_low (Terminating pid time reason method waiting) child = output_low child None
shown_low (Exiting pid time slow_after outcome waiting) child = output_low child None
shown_low (Exited outcome time slow_after fault) child = output_low child fault
shown_low (Delay outcome slow waiting) child = omega arith
