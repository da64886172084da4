-- Lines of a turn's keys in any order, and that they are read.
use Rattle.std.specs.Prelude.{ℕ, ◌≡◌, List, [], ◌∷◌, Option, Some, None}
use Rattle.std.specs.List.Sorted.{IsPermutation}
use Rattle.serde_json.specs.Data.{Data, object, Members, no_members, member}
use Rattle.serde_json.specs.Written.{compact_text}
use Rattle.run_events.specs.declared.turn.Turn.{Turn}
use Rattle.run_input.specs.Input.{turn_line_of}
use Rattle.run_output.specs.Turns.{turn_fields}
use Rattle.run_turn_laws.specs.TurnLines.{IsTurn}

-- the fields that have a value, as members in the order in which they stand
abbrev pub members_in_order : List (List ℕ × Option Data) → Members
members_in_order [] = no_members
members_in_order ((key, None) ∷ fields) = members_in_order fields
members_in_order ((key, Some value) ∷ fields) = member key value (members_in_order fields)

-- the text of an object of these fields in this order, with no space
abbrev pub text_in_order : List (List ℕ × Option Data) → List ℕ
text_in_order fields = compact_text (object (members_in_order fields))

-- a line has each field of a turn once, in some order, and no space
pub record IsTurnText (turn : Turn) (line : List ℕ) : Type 0 where
  pub fields : List (List ℕ × Option Data)
  pub permuted : IsPermutation (turn_fields turn) fields
  pub is : text_in_order fields ≡ line

-- such a line is read as that turn, whatever the order of its fields
abbrev pub TurnLinesAreReadInAnyOrder : Type 0
TurnLinesAreReadInAnyOrder = (t : Turn) (line : List ℕ) → IsTurn t → IsTurnText t line → turn_line_of line ≡ Some t
