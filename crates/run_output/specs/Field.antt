-- What stands at a key of an event's line.
use Rattle.std.specs.Prelude.{ℕ, List, [], ◌∷◌, Option, Some, option_map, codes}
use Rattle.serde_json.specs.Data.{Data}
use Rattle.run_events.specs.declared.events.TestsNotSeen.{TestsNotSeen}
use Rattle.run_output.specs.declared.field.Field.{Field}
use Rattle.run_output.specs.declared.field.Field.TheVariants.{Leaf, Stats, Slot, Status, Statuses, ScriptStatus}
use Rattle.run_output.specs.declared.field.Field.TheVariants.{Stress, Index, Progress, StressStats, NotSeen, State}
use Rattle.run_output.specs.declared.field.Field.TheVariants.{Output}
use Rattle.run_output.specs.Fields.{count, array_of, object_of}
use Rattle.run_output.specs.Info.{state_data, shown_data}
use Rattle.run_output.specs.Leaf.{leaf_data}
use Rattle.run_output.specs.Slots.{slot_data}
use Rattle.run_output.specs.Stats.{stats_data}
use Rattle.run_output.specs.Statuses.{status_data, script_status_data}
use Rattle.run_output.specs.Stress.{condition_data, index_data, progress_data, stress_stats_data}
use Rattle.run_output.specs.Texts.{test_data}

-- the tests that were expected and not seen
unfoldable pub not_seen_fields : TestsNotSeen → List (List ℕ × Option Data)
not_seen_fields tests =
    (codes "sample", Some (array_of test_data tests.not_seen))
    ∷ (codes "total", Some (count tests.total_not_seen))
    ∷ []

-- the object
abbrev pub not_seen_data : TestsNotSeen → Data
not_seen_data tests = object_of (not_seen_fields tests)

-- its data, where there is some
abbrev pub field_data : Field → Option Data
field_data (Leaf leaf) = leaf_data leaf
field_data (Stats stats) = Some (stats_data stats.now)
field_data (Slot slot) = Some (slot_data slot.now)
field_data (Status status) = Some (status_data status.now)
field_data (Statuses list) = Some (array_of status_data list.now)
field_data (ScriptStatus status) = Some (script_status_data status.now)
field_data (Stress stress) = option_map condition_data stress.now
field_data (Index index) = option_map index_data index
field_data (Progress progress) = Some (progress_data progress)
field_data (StressStats stats) = Some (stress_stats_data stats.now)
field_data (NotSeen tests) = option_map not_seen_data tests.now
field_data (State response) = Some (state_data response.now.state)
field_data (Output response) = Some (shown_data response.now.state response.now.output)
