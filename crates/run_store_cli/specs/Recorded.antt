-- Stores that were recorded, and are played.
use Rattle.std.specs.Prelude.{ℕ, ◌≡◌, ◌⊎◌, ◌≤◌, List, length, Some}
use Rattle.run_events.specs.declared.plan.Plan.{Plan}
use Rattle.run_events.specs.declared.turn.Turn.{Turn}
use Rattle.run_input.specs.declared.plan_line.RunnerKeys.{RunnerKeys}
use Rattle.run_store_io.specs.Reads.{most_stored}
use Rattle.run_cli.specs.Call.{Reading, Writing, HasTaken, HasReadFault}
use Rattle.run_cli.specs.Cause.{HasInput}
use Rattle.run_store_cli.specs.Plays.{PlaysSo, PlaysInput, PlaysShort}
use Rattle.run_store_cli.specs.Records.{RecordsSo}

-- `record` answered 0 to what the first source has, and its sink took just this store of it; the second source has this
-- store alone, and didn't fail; and `play` of it answered so
pub record PlaysRecorded (r s : Reading) (w v : Writing) (status : ℕ) : Type 0 where
  pub records : RecordsSo r w 0
  pub before : List ℕ
  pub told : w.taken ≡ Some before
  pub store : List ℕ
  pub took : HasTaken w store
  pub within : length store ≤ most_stored
  pub given : s.left ≡ Some store
  pub calm : ¬ HasReadFault s
  pub plays : PlaysSo s v status

-- `play` of what `record` wrote of an input ends as a replay of its plan and turns does, but for want of memory
abbrev pub RecordsPlayAsReplays : Type 0
RecordsPlayAsReplays = (r s : Reading) (w v : Writing) (status : ℕ) → PlaysRecorded r s w v status
    → (keys : RunnerKeys) (plan : Plan) (turns : List Turn) → HasInput r.left keys plan turns
    → PlaysInput keys plan turns v status ⊎ PlaysShort v status
