-- A line whose long outputs are kept as bytes. Its fronts are texts, each with the output whose hex stands after it,
-- and its last text comes after them. An empty string stands in place of an output: it ends the text before the
-- output, and begins the text after it.
use Rattle.std.specs.Prelude.{ℕ, ◌≡◌, ◌-◌, ◌+◌, ◌≤◌, List, [], ◌∷◌, ◌++◌, length, take, drop, slice_range}
use Rattle.std.specs.declared.vec.Vec.{Vec}
use Rattle.std.specs.declared.alloc.Global.{Global}
use Rattle.std.specs.Str.{IsUtf8}
use Rattle.hex.specs.Hex.{encode_lower, IsBytes}
use Rattle.json.specs.Lex.{tokens}
use Rattle.json.specs.Print.{print}
use Rattle.json.specs.Token.{Token, string}

-- a text, and the output whose hex stands after it
abbrev pub Front : Type 0
Front = Vec ℕ Global × List ℕ

-- the tokens of a text that begins with an empty string, without that
abbrev pub without_first : List Token → List Token
without_first tokens_of_text = drop 1 tokens_of_text

-- the tokens of a text that ends with an empty string, without that
abbrev pub without_last : List Token → List Token
without_last tokens_of_text = take (length tokens_of_text - 1) tokens_of_text

-- the tokens of a line
abbrev pub joined : List Front → List Token → List Token
joined [] last = last
joined (front ∷ fronts) last =
    without_last (tokens front.0.items) ++ (string (encode_lower front.1) ∷ without_first (joined fronts last))

-- the bytes of a line up to its last text, where the first text counts from a place on
abbrev pub fronts_text : ℕ → List Front → List ℕ
fronts_text start [] = []
fronts_text start (front ∷ fronts) =
    slice_range front.0.items start (length front.0.items - 1) ++ (encode_lower front.1 ++ fronts_text 1 fronts)

-- where the last text counts from: the quote that begins the text after an output is not its own
abbrev pub last_start : List Front → ℕ
last_start [] = 0
last_start (front ∷ fronts) = 1

-- the bytes of a line
abbrev pub line_text : List Front → List ℕ → List ℕ
line_text fronts last = fronts_text 0 fronts ++ drop (last_start fronts) last

-- each of these texts has the quotes that do not count, where the first counts from a place on
abbrev pub AreLong : ℕ → List Front → Type 0
AreLong start [] = Unit {0}
AreLong start (front ∷ fronts) = (start + 1 ≤ length front.0.items) × AreLong 1 fronts

-- so have all texts of a line
abbrev pub IsLong : List Front → List ℕ → Type 0
IsLong fronts last = AreLong 0 fronts × (last_start fronts ≤ length last)

-- these tokens begin with an empty string
abbrev pub BeginsEmpty : List Token → Type 0
BeginsEmpty tokens_of_text = (rest : List Token) × (tokens_of_text ≡ string [] ∷ rest)

-- a text of these tokens and an empty string
pub record IsFront (front : Front) (before : List Token) : Type 0 where
  pub read : tokens front.0.items ≡ before ++ string [] ∷ []
  pub text : front.0.items ≡ print (before ++ string [] ∷ [])
  pub utf8 : IsUtf8 front.0.items
  pub bytes : IsBytes front.1

-- these texts stand each after an output
abbrev pub Follow : List Front → List Token → Type 0
Follow [] last = BeginsEmpty last
Follow (front ∷ fronts) last =
    (before : List Token) × IsFront front before × BeginsEmpty before × Follow fronts last

-- these are the texts of a line
abbrev pub AreCut : List Front → List Token → Type 0
AreCut [] last = Unit {0}
AreCut (front ∷ fronts) last = (before : List Token) × IsFront front before × Follow fronts last
