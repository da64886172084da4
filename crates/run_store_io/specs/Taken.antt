-- What a sink takes of a store.
use Rattle.std.specs.Prelude.{ℕ, ◌≡◌, ◌+◌, ◌<◌, ◌≤◌, ◌^◌, List, [], ◌∷◌, ◌++◌, length, Option, Bool, true, false}
use Rattle.std.specs.Prelude.{Result, Ok, Err}
use Rattle.run_capture.specs.Bytes.{Takes}
use Rattle.run_events.specs.declared.turn.Turn.{Turn}
use Rattle.run_output.specs.Turns.{turn_text}
use Rattle.run_store.specs.Records.{most_bytes, framed}
use Rattle.run_store.specs.Stores.{IsStoredTurn}
use Rattle.run_store_io.specs.declared.error.StoreError.{StoreError}
use Rattle.run_store_io.specs.declared.error.StoreError.TheVariants.{Write, Closed, TooLong, OutOfMemory}

-- a front part of these bytes was taken last, and not all
abbrev pub TakesPart : Option (List ℕ) → Option (List ℕ) → List ℕ → Type 0
TakesPart before after bytes =
    (part : List ℕ) × (left : List ℕ) × (0 < length left) × (bytes ≡ part ++ left) × Takes before after part

-- a front part of these bytes was taken last, or all of them
abbrev pub TakesUpTo : Option (List ℕ) → Option (List ℕ) → List ℕ → Type 0
TakesUpTo before after bytes =
    (part : List ℕ) × (left : List ℕ) × (bytes ≡ part ++ left) × Takes before after part

-- a store of so many turns can have this turn as one more
abbrev pub HasRoom : ℕ → Turn → Type 0
HasRoom n t = (length (turn_text t) ≤ most_bytes) × (n + 1 < 2 ^ 32)

-- after so many turns a sink took the record of one more; or a front part of it, and failed; or nothing
abbrev pub IsTurnWritten : {T : Type 0} → Option (List ℕ) → Option (List ℕ) → ℕ → Turn → Result T StoreError → Type 0
IsTurnWritten before after n t (Ok _) =
    HasRoom n t × IsStoredTurn t × Takes before after (framed 2 (turn_text t))
IsTurnWritten before after n t (Err Write) =
    HasRoom n t × IsStoredTurn t × TakesPart before after (framed 2 (turn_text t))
IsTurnWritten before after n t (Err TooLong) = (¬ HasRoom n t) × (after ≡ before)
IsTurnWritten before after n t (Err OutOfMemory) = after ≡ before
IsTurnWritten before after n t (Err _) = ⊥

-- the turns of which a sink has taken a part, after a turn was refused: that turn is one of them where the sink failed
abbrev pub turns_tried : StoreError → List Turn → Turn → List Turn
turns_tried Write turns t = turns ++ t ∷ []
turns_tried _ turns t = turns

-- whether a turn can be refused so
abbrev pub is_turn_error : StoreError → Bool
is_turn_error Write = true
is_turn_error Closed = true
is_turn_error TooLong = true
is_turn_error OutOfMemory = true
is_turn_error _ = false

-- whether the sink failed
abbrev pub is_write_error : StoreError → Bool
is_write_error Write = true
is_write_error _ = false

-- whether the sink failed
abbrev pub is_write : {T : Type 0} → Result T StoreError → Bool
is_write (Ok _) = false
is_write (Err e) = is_write_error e
