-- The signs and words of the language of filters. A text is the list of its bytes.
use Rattle.std.specs.Prelude.{ℕ, ◌+◌, Bool, true, false, ◌&&◌, ◌||◌, not, List, [], ◌∷◌, Option, Some, None, Result}
use Rattle.std.specs.Prelude.{Ok, Err, nat_eq, nat_le, length, drop, codes, ◌==◌, if◌then◌else◌}
use Rattle.std.specs.List.{starts_with}
use lib.Pointwise.{pointwise}
use Rattle.run_filter.specs.declared.facts.Subject.TheVariants as subjects
use Rattle.run_filter.specs.declared.fault.FilterFault.{FilterFault}
use Rattle.run_filter.specs.declared.fault.FilterFault.TheVariants.{DoubledOr, DoubledAnd, CapitalOr, CapitalAnd}
use Rattle.run_filter.specs.declared.fault.FilterFault.TheVariants.{CapitalNot}
use Rattle.run_filter.specs.declared.signs.Sign.{Sign}
use Rattle.run_filter.specs.declared.signs.Sign.TheVariants as signs
use Rattle.run_filter.specs.declared.signs.Meaning.{Meaning}
use Rattle.run_filter.specs.declared.signs.Meaning.TheVariants as meanings

-- a space, a tab or the end of a line
abbrev pub is_space : ℕ → Bool
is_space b = b == 32 || b == 9 || b == 10 || b == 13

-- what is left from the first byte on that is no space
abbrev pub skip : List ℕ → List ℕ
skip [] = []
skip (b ∷ bs) = if is_space b then skip bs else b ∷ bs

-- a letter, a digit or `_`
abbrev pub is_word_byte : ℕ → Bool
is_word_byte b =
    (nat_le 97 b && nat_le b 122) || (nat_le 65 b && nat_le b 90) || (nat_le 48 b && nat_le b 57) || b == 95

abbrev pub head_is_word_byte : List ℕ → Bool
head_is_word_byte [] = false
head_is_word_byte (b ∷ bs) = is_word_byte b

-- whether a text begins with a sign, and with a word that ends there
abbrev pub begins : List ℕ → List ℕ → Bool
begins text sign = starts_with nat_eq text sign

abbrev pub begins_word : List ℕ → List ℕ → Bool
begins_word text word = begins text word && not (head_is_word_byte (drop (length word) text))

-- the length of the sign of `or` that a text begins with, of `and` (and whether it is `-`), and of a negation;
-- none; or a sign that is written otherwise
unfoldable pub or_sign : List ℕ → Result (Option ℕ) FilterFault
or_sign text =
    if begins text (codes "||") then Err DoubledOr
    else if begins_word text (codes "OR") then Err CapitalOr
    else if begins text (codes "|") || begins text (codes "+") then Ok (Some 1)
    else if begins_word text (codes "or") then Ok (Some 2)
    else Ok None

unfoldable pub and_sign : List ℕ → Result (Option (ℕ × Bool)) FilterFault
and_sign text =
    if begins text (codes "&&") then Err DoubledAnd
    else if begins_word text (codes "AND") then Err CapitalAnd
    else if begins text (codes "&") then Ok (Some (1, false))
    else if begins text (codes "-") then Ok (Some (1, true))
    else if begins_word text (codes "and") then Ok (Some (3, false))
    else Ok None

unfoldable pub not_sign : List ℕ → Result (Option ℕ) FilterFault
not_sign text =
    if begins_word text (codes "NOT") then Err CapitalNot
    else if begins text (codes "!") then Ok (Some 1)
    else if begins_word text (codes "not") then Ok (Some 3)
    else Ok None

-- a small letter or `_`: a name is made of these
abbrev pub is_name_byte : ℕ → Bool
is_name_byte b = (nat_le 97 b && nat_le b 122) || b == 95

-- the length of the name that a text begins with
abbrev pub name_len : List ℕ → ℕ
name_len [] = 0
name_len (b ∷ bs) = if is_name_byte b then name_len bs + 1 else 0

-- what the name of a subject means: each has its usual sign
unfoldable pub named_subject : List ℕ → Meaning
named_subject name =
    if pointwise nat_eq name (codes "test") then meanings.Asks subjects.Test signs.Contains
    else if pointwise nat_eq name (codes "package") then meanings.Asks subjects.Package signs.Glob
    else if pointwise nat_eq name (codes "binary") then meanings.Asks subjects.Binary signs.Glob
    else if pointwise nat_eq name (codes "binary_id") then meanings.Asks subjects.BinaryId signs.Glob
    else if pointwise nat_eq name (codes "kind") then meanings.Asks subjects.Kind signs.Equals
    else if pointwise nat_eq name (codes "platform") then meanings.Asks subjects.Platform signs.Equals
    else if pointwise nat_eq name (codes "group") then meanings.Asks subjects.Group signs.Glob
    else meanings.Unknown

-- what a name means
unfoldable pub meaning_of : List ℕ → Meaning
meaning_of name =
    if pointwise nat_eq name (codes "all") then meanings.All
    else if pointwise nat_eq name (codes "none") then meanings.Nothing
    else if pointwise nat_eq name (codes "default") then meanings.Default
    else if pointwise nat_eq name (codes "deps") then meanings.Graph
    else if pointwise nat_eq name (codes "rdeps") then meanings.Graph
    else named_subject name

-- the sign that a text begins with, and its length; or else the usual one, and 0
unfoldable pub sign_of : Sign → List ℕ → Sign × ℕ
sign_of usual [] = (usual, 0)
sign_of usual (b ∷ bs) =
    if b == 126 then (signs.Contains, 1)
    else if b == 61 then (signs.Equals, 1)
    else if b == 35 then (signs.Glob, 1)
    else if b == 47 then (signs.Regex, 1)
    else (usual, 0)
