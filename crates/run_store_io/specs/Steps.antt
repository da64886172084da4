-- The records after a plan line, one after another.
use Rattle.std.specs.Prelude.{ℕ, ◌≡◌, ◌+◌, ◌<◌, ◌^◌, ◌⊎◌, List, [], ◌∷◌, ◌++◌, length, ⊤, Some, None, true, false}
use Rattle.std.specs.Prelude.{Bool, Result, Ok, Err, bytes_eq}
use Rattle.std.specs.Int.{w32, to_be_bytes}
use Rattle.run_events.specs.declared.turn.Turn.{Turn}
use Rattle.run_output.specs.Turns.{turn_text}
use Rattle.run_store.specs.Records.{framed, payload_in, is_bad}
use Rattle.run_store.specs.Stores.{turn_records, end_record, IsStoredTurn, AreStored, after_turns, is_turn_payload}
use Rattle.run_store_io.specs.Payloads.{IsTurnOf}
use Rattle.run_store_io.specs.declared.error.StoreError.{StoreError}
use Rattle.run_store_io.specs.declared.error.StoreError.TheVariants.{Bad, OutOfMemory}
use Rattle.run_store_io.specs.declared.records.Step.{Step}
use Rattle.run_store_io.specs.declared.records.Step.TheVariants as steps

-- bytes after so many turns begin with a bad record, or go on after the last one: the bad record has this place
abbrev pub IsBadStep : ℕ → List ℕ → ℕ → Type 0
IsBadStep n rest place =
    ((place ≡ n + 1) × (is_bad (after_turns n) rest ≡ true))
    ⊎ ((place ≡ n + 2) × (byte : ℕ) × (more : List ℕ) × (rest ≡ end_record n ++ byte ∷ more))

-- bytes after so many turns begin with a turn's record, end within a record, or are the last record
abbrev pub IsStep : ℕ → List ℕ → Result Step StoreError → Type 0
IsStep n rest (Ok (steps.Turn t after)) =
    IsStoredTurn t × (n + 1 < 2 ^ 32) × (rest ≡ framed 2 (turn_text t) ++ after.now)
IsStep n rest (Ok steps.Cut) = (is_bad (after_turns n) rest ≡ false) × (payload_in rest ≡ None)
IsStep n rest (Ok steps.End) = rest ≡ end_record n
IsStep n rest (Err (Bad place)) = IsBadStep n rest place
IsStep n rest (Err OutOfMemory) = ⊤
IsStep n rest (Err _) = ⊥

-- the same of a turn's record, by its payload
abbrev pub IsTurnStep : ℕ → List ℕ → List ℕ → Result Step StoreError → Type 0
IsTurnStep n payload after (Ok (steps.Turn t rest)) = IsTurnOf payload (Some t) × (rest.now ≡ after)
IsTurnStep n payload after (Ok _) = ⊥
IsTurnStep n payload after (Err (Bad place)) = (place ≡ n + 1) × (is_turn_payload payload ≡ false)
IsTurnStep n payload after (Err OutOfMemory) = ⊤
IsTurnStep n payload after (Err _) = ⊥

-- the same of the last record
abbrev pub IsEndStep : ℕ → List ℕ → List ℕ → Result Step StoreError → Type 0
IsEndStep n payload after (Ok steps.End) = (payload ≡ to_be_bytes w32 n) × (after ≡ [])
IsEndStep n payload after (Ok _) = ⊥
IsEndStep n payload after (Err (Bad place)) =
    ((place ≡ n + 1) × (bytes_eq payload (to_be_bytes w32 n) ≡ false))
    ⊎ ((place ≡ n + 2) × (payload ≡ to_be_bytes w32 n) × (0 < length after))
IsEndStep n payload after (Err _) = ⊥

-- records begin with those of turns that a store can have, and this is the rest
pub record HasTurns (records : List ℕ) (turns : List Turn) (rest : List ℕ) : Type 0 where
  pub stored : AreStored turns
  pub few : length turns < 2 ^ 32
  pub split : records ≡ turn_records turns ++ rest

-- records after a plan line are those of these turns, with the last one or without it, or one of them is bad
abbrev pub AreRecords : List ℕ → Result (List Turn × Bool) StoreError → Type 0
AreRecords records (Ok (turns, true)) = HasTurns records turns (end_record (length turns))
AreRecords records (Ok (turns, false)) =
    (rest : List ℕ) × HasTurns records turns rest × (is_bad (after_turns (length turns)) rest ≡ false)
    × (payload_in rest ≡ None)
AreRecords records (Err (Bad place)) =
    (turns : List Turn) × (rest : List ℕ) × HasTurns records turns rest × IsBadStep (length turns) rest place
AreRecords records (Err OutOfMemory) = ⊤
AreRecords records (Err _) = ⊥
