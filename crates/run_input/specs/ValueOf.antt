-- The JSON value of a line.
use Rattle.std.specs.Prelude.{ℕ, List, Option, Some, None, option_and_then, if◌then◌else◌}
use Rattle.std.specs.Str.{is_utf8}
use Rattle.serde_json.specs.Data.{Data}
use Rattle.serde_json.specs.Read.{read}
use Rattle.serde_json.specs.Written.{has_float}

-- a value that has no float
abbrev pub unless_float : Data → Option Data
unless_float d = if has_float d then None else Some d

-- the value of a line that is UTF-8 and one JSON value with no float in it
unfoldable pub json_value : List ℕ → Option Data
json_value bytes = if is_utf8 bytes then option_and_then unless_float (read bytes) else None
