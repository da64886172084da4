-- What is appended to a line in the making.
use Rattle.std.specs.Prelude.{◌≡◌, ℕ, List, [], ◌∷◌, ◌++◌, Option, Some, None, unwrap_or, OnOk, Result}
use Rattle.json.specs.Token.{Token, key}
use Rattle.json.specs.Tree.{json_tokens}
use Rattle.serde_json.specs.Data.{Data, null}
use Rattle.serde_json.specs.Written.{outline}

-- the tokens of a value that holds no float
unfoldable pub data_tokens : Data → List Token
data_tokens value = json_tokens (outline value)

-- those of values one after another
abbrev pub each_tokens : List Data → List Token
each_tokens [] = []
each_tokens (value ∷ later) = data_tokens value ++ each_tokens later

-- a value, and `null` where there is none
abbrev pub or_null : Option Data → Data
or_null value = unwrap_or value null

-- those of a member of an object, where there is a value
abbrev pub member_tokens : List ℕ → Option Data → List Token
member_tokens name None = []
member_tokens name (Some value) = key name ∷ data_tokens value

-- success appends these tokens
abbrev pub Prints : {E : Type 0} → Result (Unit {0}) E → List Token → List Token → List Token → Type 0
Prints result before after tokens = OnOk result (after ≡ before ++ tokens)
