-- The store of an input.
use Rattle.std.specs.Prelude.{ℕ, ◌≡◌, ◌⊎◌, List, [], ◌∷◌, Option, Some, Bool, true, false, Result, Ok}
use Rattle.std.specs.Prelude.{Err}
use Rattle.run_capture.specs.declared.sink.Sink.{Ghosts as OfSink}
use Rattle.run_capture.specs.Bytes.{Takes}
use Rattle.run_events.specs.declared.plan.Plan.{Plan}
use Rattle.run_events.specs.declared.turn.Turn.{Turn}
use Rattle.run_input.specs.declared.plan_line.RunnerKeys.{RunnerKeys}
use Rattle.run_input.specs.Lines.{lines_of}
use Rattle.run_input.specs.Input.{IsInput, IsFirstBad}
use Rattle.run_store.specs.Stores.{store_text, IsStorable, StoreReading, whole, IsReading}
use Rattle.run_store_io.specs.Taken.{TakesPart, is_write_error}
use Rattle.run_store_io.specs.Written.{IsStoreError}
use Rattle.run_store_io.specs.declared.error.StoreError.{StoreError}
use Rattle.run_store_io.specs.declared.error.StoreError.TheVariants.{OutOfMemory}
use Rattle.run_store_io.specs.declared.recording.RecordError.{RecordError}
use Rattle.run_store_io.specs.declared.recording.RecordError.TheVariants.{Line, Store}

-- the bytes of an input that says a plan, by this line, and these turns
pub record IsRecordOf (bytes line : List ℕ) (turns : List Turn) : Type 0 where
  pub keys : RunnerKeys
  pub plan : Plan
  pub others : List (List ℕ)
  pub first : lines_of bytes ≡ line ∷ others
  pub says : IsInput (lines_of bytes) keys plan turns

-- a sink took the store text of an input
pub record HasRecorded (bytes : List ℕ) (before after : Option (List ℕ)) : Type 0 where
  pub line : List ℕ
  pub turns : List Turn
  pub said : IsRecordOf bytes line turns
  pub storable : IsStorable line turns
  pub took : Takes before after (store_text line turns)

-- a sink took a front part of the store text of an input, and not all
pub record HasRecordedPart (bytes : List ℕ) (before after : Option (List ℕ)) (e : StoreError) : Type 0 where
  pub line : List ℕ
  pub turns : List Turn
  pub said : IsRecordOf bytes line turns
  pub cause : IsStoreError line turns e
  pub took : TakesPart before after (store_text line turns)

-- why an input isn't recorded, and what the sink took: a line is bad, and nothing was written; or the store wasn't
-- written whole
abbrev pub IsRecordError : List ℕ → Option (List ℕ) → Option (List ℕ) → RecordError → Type 0
IsRecordError bytes before after (Line number) = IsFirstBad (lines_of bytes) number × (after ≡ before)
IsRecordError bytes before after (Store OutOfMemory) =
    (after ≡ before) ⊎ HasRecordedPart bytes before after OutOfMemory
IsRecordError bytes before after (Store e) = HasRecordedPart bytes before after e

-- whether the sink failed
abbrev pub is_record_write_error : RecordError → Bool
is_record_write_error (Line number) = false
is_record_write_error (Store e) = is_write_error e

abbrev pub is_record_write : {K : Type 0} → Result K (RecordError × K) → Bool
is_record_write (Ok k) = false
is_record_write (Err e) = is_record_write_error e.0

-- how often a sink that is handed back has failed
abbrev pub recorded_faults : {K : Type 0} → OfSink K → Result K (RecordError × K) → ℕ
recorded_faults s (Ok k) = s.faults k
recorded_faults s (Err e) = s.faults e.1

-- what a sink that had nothing took of an input is read in one way: as a whole store of its first line and its turns
abbrev pub RecordedStoresAreRead : Type 0
RecordedStoresAreRead = (bytes store : List ℕ) → HasRecorded bytes (Some []) (Some store)
    → (line : List ℕ) × (turns : List Turn) × IsRecordOf bytes line turns
    × IsReading store (whole line turns) × ((r : StoreReading) → IsReading store r → r ≡ whole line turns)
