-- What the record of a run is.
use Rattle.std.specs.Prelude.{ℕ, ◌≡◌, ◌⊎◌, List, Bool, true, false}
use Rattle.run_events.specs.declared.turn.Turn.{Turn}
use Rattle.run_store.specs.Stores.{front, store_text, is_plan_payload, IsStorable}
use Rattle.run_store_io.specs.Taken.{TakesPart}
use Rattle.run_cli.specs.Call.{Writing, HasTaken, HasWriteFault}
use Rattle.run_record.specs.declared.outcome.RecordOutcome.{RecordOutcome}
use Rattle.run_record.specs.declared.outcome.RecordOutcome.TheVariants.{Recorded, Planless, Unwritten, Unstorable}
use Rattle.run_record.specs.declared.outcome.RecordOutcome.TheVariants.{NoMemory}

-- the store of a plan line and turns: whole of a run that is over, and else without its end
abbrev pub record_text : Bool → List ℕ → List Turn → List ℕ
record_text true line turns = store_text line turns
record_text false line turns = front line turns

-- what a sink took of a record of this plan line and these turns, by what became of it: all; nothing, since the line is
-- none of a plan that a store can have; or a front part of the store and not all, since the sink failed, since no store
-- can have these turns, or since memory was wanting
abbrev pub IsRunRecord : Bool → List ℕ → List Turn → Writing → RecordOutcome → Type 0
IsRunRecord over line turns v Recorded =
    IsStorable line turns × HasTaken v (record_text over line turns) × (v.faults_after ≡ v.faults)
IsRunRecord over line turns v Planless =
    (is_plan_payload line ≡ false) × (v.taken_after ≡ v.taken) × (v.faults_after ≡ v.faults)
IsRunRecord over line turns v Unwritten =
    TakesPart v.taken v.taken_after (store_text line turns) × HasWriteFault v
IsRunRecord over line turns v Unstorable =
    (¬ IsStorable line turns) × TakesPart v.taken v.taken_after (store_text line turns) × (v.faults_after ≡ v.faults)
IsRunRecord over line turns v NoMemory =
    ((v.taken_after ≡ v.taken) ⊎ TakesPart v.taken v.taken_after (store_text line turns))
    × (v.faults_after ≡ v.faults)
