-- How playing a store ends.
use Rattle.std.specs.Prelude.{ℕ, ◌≡◌, ◌⊎◌, ◌≤◌, ◌<◌, List, length, Some, Result, Ok}
use Rattle.run_capture.specs.Bytes.{AtEnd}
use Rattle.run_events.specs.declared.plan.Plan.{Plan}
use Rattle.run_events.specs.declared.turn.Turn.{Turn}
use Rattle.run_events.specs.declared.outcome.RunOutcome.{RunOutcome}
use Rattle.run_input.specs.declared.plan_line.RunnerKeys.{RunnerKeys}
use Rattle.run_input.specs.Input.{plan_line_of}
use Rattle.run_output.specs.declared.fault.Fault.{Fault}
use Rattle.run_output.specs.declared.fault.Fault.TheVariants.{Read, TooLong}
use Rattle.run_store.specs.Stores.{StoreReading, whole, torn, no_plan, bad, IsReading}
use Rattle.run_store_io.specs.Reads.{most_stored, IsReadAs}
use Rattle.run_store_io.specs.declared.stored.Stored.{Stored}
use Rattle.run_store_io.specs.declared.fault_lines.StoreFault.{StoreFault}
use Rattle.run_store_io.specs.declared.fault_lines.StoreFault.TheVariants.{Torn, Bad}
use Rattle.run_cli.specs.Call.{Reading, Writing, HasGiven, HasReadFault, Writes}
use Rattle.run_cli.specs.Finish.{IsInputEnding}
use Rattle.run_cli.specs.Short.{IsShort}
use Rattle.run_cli.specs.Text.{fault_only, ending_status}
use Rattle.run_cli.specs.declared.command.Command.TheVariants.{Replay}
use Rattle.run_store_cli.specs.Ends.{store_fault_only}
use Rattle.run_store_cli.specs.Torn.{IsTornInput}

-- the source was read to its end, it gave no more than a store may have, and its bytes are read so
pub record IsStore (r : Reading) (reading : StoreReading) : Type 0 where
  pub bytes : List ℕ
  pub given : HasGiven r bytes
  pub end : AtEnd r.left_after
  pub within : length bytes ≤ most_stored
  pub read : IsReading bytes reading

-- it gave a store, whole or torn, whose plan line says this plan, and which has these turns
pub record SaysRun (r : Reading) (reading : List ℕ → List Turn → StoreReading) (keys : RunnerKeys) (plan : Plan)
    (turns : List Turn) : Type 0 where
  pub line : List ℕ
  pub store : IsStore r (reading line turns)
  pub says : plan_line_of line ≡ Some (keys, plan)

-- the source was read to its end, and its bytes are read as this store
pub record GivesStore (r : Reading) (s : Stored) : Type 0 where
  pub bytes : List ℕ
  pub given : HasGiven r bytes
  pub end : AtEnd r.left_after
  pub within : length bytes ≤ most_stored
  pub read : IsReadAs bytes (Ok s)

-- a plan and turns are replayed so
abbrev pub PlaysInput : RunnerKeys → Plan → List Turn → Writing → ℕ → Type 0
PlaysInput keys plan turns w status =
    (ending : Result RunOutcome Fault) × (status ≡ ending_status ending) × IsInputEnding Replay keys plan turns w ending

-- a whole store ends as a replay of its plan and turns does, a torn one so
abbrev pub PlaysWhole : Reading → Writing → ℕ → Type 0
PlaysWhole r w status =
    (keys : RunnerKeys) × (plan : Plan) × (turns : List Turn) × SaysRun r whole keys plan turns
    × PlaysInput keys plan turns w status

abbrev pub PlaysTorn : Reading → Writing → ℕ → Type 0
PlaysTorn r w status =
    (keys : RunnerKeys) × (plan : Plan) × (turns : List Turn) × SaysRun r torn keys plan turns
    × IsTornInput keys plan turns w status

-- the bytes have no plan, or a bad record: nothing is run, and its line went out
abbrev pub SaysNoPlan : Reading → Writing → ℕ → Type 0
SaysNoPlan r w status = (status ≡ 14) × IsStore r no_plan × Writes w (store_fault_only (Torn 0))

abbrev pub SaysBad : Reading → Writing → ℕ → Type 0
SaysBad r w status =
    (place : ℕ) × (status ≡ 15) × IsStore r (bad place) × Writes w (store_fault_only (Bad place))

-- the source gave more than a store may have
abbrev pub SaysTooLong : Reading → Writing → ℕ → Type 0
SaysTooLong r w status =
    (status ≡ 12) × ((lost : List ℕ) × HasGiven r lost × (most_stored < length lost)) × Writes w (fault_only TooLong)

-- the source failed, and gave no more than that
abbrev pub SaysUnread : Reading → Writing → ℕ → Type 0
SaysUnread r w status =
    (status ≡ 10) × ((lost : List ℕ) × HasGiven r lost × (length lost ≤ most_stored)) × HasReadFault r
    × Writes w (fault_only Read)

-- memory was wanting before a run was begun: of one fault's line a front part went out, and then of memory's
abbrev pub PlaysShort : Writing → ℕ → Type 0
PlaysShort w status =
    (status ≡ 11) × (((fault : Fault) × IsShort (fault_only fault) w)
    ⊎ ((fault : StoreFault) × IsShort (store_fault_only fault) w))

-- playing what a source that didn't fail gave ends so
pub data PlaysRead (r : Reading) (w : Writing) (status : ℕ) : Type 0 where
  whole_store : PlaysWhole r w status → PlaysRead r w status
  torn_store : PlaysTorn r w status → PlaysRead r w status
  planless : SaysNoPlan r w status → PlaysRead r w status
  bad_store : SaysBad r w status → PlaysRead r w status
  too_long : SaysTooLong r w status → PlaysRead r w status
  early : PlaysShort w status → PlaysRead r w status

-- playing what a source gives ends so: it failed, and that was said, or memory was wanting for that; or it didn't
abbrev pub PlaysSo : Reading → Writing → ℕ → Type 0
PlaysSo r w status =
    (SaysUnread r w status ⊎ (HasReadFault r × PlaysShort w status))
    ⊎ ((r.faults_after ≡ r.faults) × PlaysRead r w status)
