-- The compact text of a JSON value, which is read as just that value.
use Rattle.std.specs.Prelude.{ℕ, ◌≡◌, ◌≤◌, List, Option, map, option_and_then, option_map, false}
use Rattle.serde_json.specs.Data.{Data, depth}
use Rattle.serde_json.specs.Read.{max_depth, read}
use Rattle.serde_json.specs.Written.{compact_text, has_float}
use Rattle.run_audit_model.specs.Statuses.{Compared}

-- a value that has such a text: one with no float, that nests no deeper than a reader goes
abbrev pub HasOwnText : Data → Type 0
HasOwnText d = (has_float d ≡ false) × (depth d ≤ max_depth)

-- a text is that of some value
abbrev pub IsOwnText : List ℕ → Type 0
IsOwnText text = (d : Data) × (text ≡ compact_text d) × (read text ≡ Option.Some d)

-- the value that a text has, if there is a text
abbrev pub known_value_in : Option (List ℕ) → Option Data
known_value_in text = option_and_then read text

-- what is compared of a status, by the texts that stand at the keys which are compared
abbrev pub known_compared : Option (List (Option (List ℕ))) → Compared
known_compared texts = option_map (map known_value_in) texts
