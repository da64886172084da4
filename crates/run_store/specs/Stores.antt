-- The text of a store, and what bytes that may be cut short or damaged are read as.
use Rattle.std.specs.Prelude.{ℕ, ◌≡◌, ◌+◌, ◌<◌, ◌≤◌, ◌^◌, ◌==◌, ◌&&◌, ◌||◌, ◌⊎◌, List, [], ◌∷◌, ◌++◌, length, drop, ⊤}
use Rattle.std.specs.Prelude.{Some, None, Bool, true, false, if◌then◌else◌, not, nat_lt, nat_le, is_some, bytes_eq}
use Rattle.std.specs.Prelude.{codes}
use Rattle.std.specs.List.{list_all}
use Rattle.std.specs.Option.{option_map_or}
use Rattle.std.specs.Int.{w32, to_be_bytes}
use Rattle.hex.specs.Hex.{IsBytes}
use Rattle.run_events.specs.declared.turn.Turn.{Turn}
use Rattle.run_input.specs.Input.{plan_line_of, turn_line_of}
use Rattle.run_output.specs.Turns.{turn_text}
use Rattle.run_turn_laws.specs.TurnLines.{IsTurn}
use Rattle.run_store.specs.Records.{most_bytes, framed, payload_in, Awaited, is_bad}

-- the eight bytes at the front of a store text
abbrev pub header : List ℕ
header = codes "NXRUN001"

-- the records of turns, each with its line
abbrev pub turn_records : List Turn → List ℕ
turn_records [] = []
turn_records (t ∷ turns) = framed 2 (turn_text t) ++ turn_records turns

-- a store text without its last record
abbrev pub front : List ℕ → List Turn → List ℕ
front plan turns = header ++ (framed 1 plan ++ turn_records turns)

-- the last record: the number of turns, as four bytes
abbrev pub end_record : ℕ → List ℕ
end_record n = framed 3 (to_be_bytes w32 n)

-- the store text of a plan line and turns
abbrev pub store_text : List ℕ → List Turn → List ℕ
store_text plan turns = front plan turns ++ end_record (length turns)

-- a plan line that a store can have: a reader of plan lines takes it, it has no line feed, and it isn't too long
abbrev pub is_plan_payload : List ℕ → Bool
is_plan_payload plan =
    is_some (plan_line_of plan) && (list_all (λ b. not (b == 10)) plan && nat_le (length plan) most_bytes)

-- a turn that a store can have: its line is read as that turn, and isn't too long
abbrev pub IsStoredTurn : Turn → Type 0
IsStoredTurn t = (turn_line_of (turn_text t) ≡ Some t) × (length (turn_text t) ≤ most_bytes)

-- each turn whose parts fit their types is such a turn, if its line isn't too long
abbrev pub TurnsAreStored : Type 0
TurnsAreStored = (t : Turn) → IsTurn t → length (turn_text t) ≤ most_bytes → IsStoredTurn t

-- a store can have each of these turns
abbrev pub AreStored : List Turn → Type 0
AreStored [] = ⊤
AreStored (t ∷ turns) = IsStoredTurn t × AreStored turns

-- a plan line and turns that a store can have
pub record IsStorable (plan : List ℕ) (turns : List Turn) : Type 0 where
  pub plan_line : is_plan_payload plan ≡ true
  pub turn_lines : AreStored turns
  pub few : length turns < 2 ^ 32

-- the line of a turn, and no other spelling of it
abbrev pub is_turn_payload : List ℕ → Bool
is_turn_payload payload = option_map_or (λ t. bytes_eq (turn_text t) payload) (turn_line_of payload) false

-- the first record is the plan line's
abbrev pub at_first : Awaited
at_first = record { kinds = λ kind. kind == 1; payloads = λ kind payload. is_plan_payload payload }

-- after so many turns comes a turn, if there can be one more, or the end
abbrev pub after_turns : ℕ → Awaited
after_turns n = record {
  kinds = λ kind. (kind == 2 && nat_lt (n + 1) (2 ^ 32)) || kind == 3;
  payloads = λ kind payload. if kind == 2 then is_turn_payload payload else bytes_eq payload (to_be_bytes w32 n);
}

-- whether bytes are those of a text, as far as both go
abbrev pub agrees : List ℕ → List ℕ → Bool
agrees [] text = true
agrees (b ∷ bytes) [] = true
agrees (b ∷ bytes) (c ∷ text) = b == c && agrees bytes text

-- bytes begin with the plan line and these turns, and this is the rest
pub record IsReadTo (bytes plan : List ℕ) (turns : List Turn) (rest : List ℕ) : Type 0 where
  pub storable : IsStorable plan turns
  pub split : bytes ≡ front plan turns ++ rest

-- bytes are the store text of a plan line and turns
pub record IsWholeStore (bytes plan : List ℕ) (turns : List Turn) : Type 0 where
  pub storable : IsStorable plan turns
  pub is : bytes ≡ store_text plan turns

-- bytes end within the record after a plan line and turns, which may be right as far as it is there
pub record IsTorn (bytes plan : List ℕ) (turns : List Turn) : Type 0 where
  pub rest : List ℕ
  pub reaches : IsReadTo bytes plan turns rest
  pub good : is_bad (after_turns (length turns)) rest ≡ false
  pub cut : payload_in rest ≡ None

-- bytes end within the header or the plan line's record, which may be right as far as they are there
pub record IsNoPlan (bytes : List ℕ) : Type 0 where
  pub headed : agrees bytes header ≡ true
  pub good : is_bad at_first (drop 8 bytes) ≡ false
  pub cut : payload_in (drop 8 bytes) ≡ None

-- the header or the plan line's record is bad
abbrev pub IsBadFirst : List ℕ → Type 0
IsBadFirst bytes = (agrees bytes header ≡ false) ⊎ (is_bad at_first (drop 8 bytes) ≡ true)

-- the record after a plan line and turns is bad
pub record IsBadAfter (bytes : List ℕ) (place : ℕ) : Type 0 where
  pub plan : List ℕ
  pub turns : List Turn
  pub rest : List ℕ
  pub reaches : IsReadTo bytes plan turns rest
  pub broken : is_bad (after_turns (length turns)) rest ≡ true
  pub counted : place ≡ length turns + 1

-- bytes go on after the end of a store text
pub record IsBadPast (bytes : List ℕ) (place : ℕ) : Type 0 where
  pub plan : List ℕ
  pub turns : List Turn
  pub byte : ℕ
  pub more : List ℕ
  pub storable : IsStorable plan turns
  pub split : bytes ≡ store_text plan turns ++ byte ∷ more
  pub counted : place ≡ length turns + 2

-- the record at a place, from 0, is the first that no store text has there
abbrev pub IsBad : List ℕ → ℕ → Type 0
IsBad bytes place = ((place ≡ 0) × IsBadFirst bytes) ⊎ (IsBadAfter bytes place ⊎ IsBadPast bytes place)

-- what bytes are read as
pub data StoreReading : Type 0 where
  whole : List ℕ → List Turn → StoreReading
  torn : List ℕ → List Turn → StoreReading
  no_plan : StoreReading
  bad : ℕ → StoreReading

-- bytes are read so
abbrev pub IsReading : List ℕ → StoreReading → Type 0
IsReading bytes (whole plan turns) = IsWholeStore bytes plan turns
IsReading bytes (torn plan turns) = IsTorn bytes plan turns
IsReading bytes no_plan = IsNoPlan bytes
IsReading bytes (bad place) = IsBad bytes place

-- any bytes are read in exactly one way
abbrev pub StoresAreReadOneWay : Type 0
StoresAreReadOneWay = (bytes : List ℕ) → IsBytes bytes
    → (r : StoreReading) × IsReading bytes r × ((s : StoreReading) → IsReading bytes s → s ≡ r)

-- no front part of a store text has a bad record
abbrev pub NoFrontIsBad : Type 0
NoFrontIsBad = (plan : List ℕ) (turns : List Turn) (part more : List ℕ) (place : ℕ) → IsStorable plan turns
    → part ++ more ≡ store_text plan turns → ¬ IsBad part place
