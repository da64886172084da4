-- A record in the making: its store takes each turn as the run takes it.
use Rattle.std.specs.Prelude.{ℕ, ◌≡◌, List, ◌++◌, Bool, Option, Some, None, Result, Ok, Err}
use Rattle.run_capture.specs.declared.sink.Sink.{Ghosts as OfSink}
use Rattle.run_events.specs.declared.turn.Turn.{Turn}
use Rattle.run_store_io.specs.Written.{IsOpen, sink_of}
use Rattle.run_store_io.specs.declared.error.StoreError.{StoreError}
use Rattle.run_store_io.specs.declared.error.StoreError.TheVariants.{Write, TooLong}
use Rattle.run_store_io.specs.declared.writer.StoreWriter.{StoreWriter}
use Rattle.run_cli.specs.Call.{Writing}
use Rattle.run_record.specs.Recorded.{IsRunRecord}
use Rattle.run_record.specs.declared.outcome.RecordOutcome.{RecordOutcome}
use Rattle.run_record.specs.declared.outcome.RecordOutcome.TheVariants.{Unwritten, Unstorable, NoMemory}

-- a sink now, and what it had taken and how often it had failed before
abbrev pub writing_since : {F : Type 0} → OfSink F → Option (List ℕ) → ℕ → F → Writing
writing_since s taken faults after =
    record { taken = taken; taken_after = s.taken after; faults = faults; faults_after = s.faults after }

-- a store of this plan line that was told of these turns, whose sink had taken those bytes and failed so often before:
-- it has them all; or it was given up, and is the record of each run that takes these turns first; or it wasn't begun,
-- whatever turns the run takes
abbrev pub IsUnderway : {F : Type 0} → OfSink F → Option (List ℕ) → ℕ → List ℕ
    → Result (StoreWriter F) (RecordOutcome × F) → List Turn → Option RecordOutcome → Type 0
IsUnderway s taken faults line (Ok w) turns None = IsOpen s taken line turns w × (s.faults (sink_of w) ≡ faults)
IsUnderway s taken faults line (Ok w) turns (Some end) = (over : Bool) (more : List Turn)
    → IsRunRecord over line (turns ++ more) (writing_since s taken faults (sink_of w)) end
IsUnderway s taken faults line (Err e) turns given_up =
    (over : Bool) (all : List Turn) → IsRunRecord over line all (writing_since s taken faults e.1) e.0

-- what becomes of a record, by why its store wasn't written
abbrev pub outcome_for : StoreError → RecordOutcome
outcome_for Write = Unwritten
outcome_for TooLong = Unstorable
outcome_for _ = NoMemory
