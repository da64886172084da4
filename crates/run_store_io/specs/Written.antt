-- What a writer of a store has written.
use Rattle.std.specs.Prelude.{ℕ, ◌≡◌, List, length, Option, Bool, true, false, Result, Ok, Err, ⊤}
use Rattle.run_capture.specs.declared.sink.Sink.{Ghosts as OfSink}
use Rattle.run_capture.specs.Bytes.{Takes}
use Rattle.run_events.specs.declared.turn.Turn.{Turn}
use Rattle.run_store.specs.Stores.{front, IsStorable}
use Rattle.run_store_io.specs.Taken.{TakesUpTo, is_write_error}
use Rattle.run_store_io.specs.declared.error.StoreError.{StoreError}
use Rattle.run_store_io.specs.declared.error.StoreError.TheVariants.{Write, Closed, TooLong, OutOfMemory}
use Rattle.run_store_io.specs.declared.writer.StoreWriter.{StoreWriter}

-- a writer takes turns: its sink has taken the header and the records of the plan line and these turns since it stood
-- so
pub record IsOpen {K : Type 0} (s : OfSink K) (start : Option (List ℕ)) (plan : List ℕ) (turns : List Turn)
    (w : StoreWriter K) : Type 0 where
  pub storable : IsStorable plan turns
  pub took : Takes start (s.taken w.sink) (front plan turns)
  pub counted : w.turns ≡ length turns
  pub unclosed : w.closed ≡ false

-- a writer takes no more turns: its sink has taken a front part of the header and the records of the plan line and
-- these turns, or all of them
pub record IsShut {K : Type 0} (s : OfSink K) (start : Option (List ℕ)) (plan : List ℕ) (turns : List Turn)
    (w : StoreWriter K) : Type 0 where
  pub storable : IsStorable plan turns
  pub took : TakesUpTo start (s.taken w.sink) (front plan turns)
  pub closed : w.closed ≡ true

-- whether an earlier turn was refused
abbrev pub is_closed : {K : Type 0} → StoreWriter K → Bool
is_closed w = w.closed

-- the error with which a store isn't finished: the writer is closed, or else the sink failed
abbrev pub IsFinishError : Bool → StoreError → Type 0
IsFinishError true e = e ≡ Closed
IsFinishError false e = e ≡ Write

-- how often the sink has failed of a writer, or one that is handed back
abbrev pub begun_faults : {K : Type 0} → OfSink K → Result (StoreWriter K) (StoreError × K) → ℕ
begun_faults s (Ok w) = s.faults w.sink
begun_faults s (Err e) = s.faults e.1

-- how often a sink that is handed back has failed
abbrev pub ended_faults : {K : Type 0} → OfSink K → Result K (StoreError × K) → ℕ
ended_faults s (Ok k) = s.faults k
ended_faults s (Err e) = s.faults e.1

-- whether the sink failed
abbrev pub is_end_write : {K : Type 0} → Result K (StoreError × K) → Bool
is_end_write (Ok k) = false
is_end_write (Err e) = is_write_error e.0

-- the sink of a writer
abbrev pub sink_of : {K : Type 0} → StoreWriter K → K
sink_of w = w.sink

-- why a store of a plan line and turns isn't written: `TooLong` says that no store can have them
abbrev pub IsStoreError : List ℕ → List Turn → StoreError → Type 0
IsStoreError plan turns Write = ⊤
IsStoreError plan turns TooLong = ¬ IsStorable plan turns
IsStoreError plan turns OutOfMemory = ⊤
IsStoreError plan turns _ = ⊥
