-- A character that stands in a text by its number: `\u{61}` is `a`. A text is the list of its bytes.
use Rattle.std.specs.Prelude.{ℕ, ◌+◌, ◌*◌, ◌^◌, ◌&&◌, List, [], ◌∷◌, Option, Some, None, option_map, option_and_then}
use Rattle.std.specs.Prelude.{nat_le, nat_lt, take, drop, position, codes, ◌==◌, if◌then◌else◌}
use Rattle.std.specs.Char.{digit_value, is_digit}
use lib.Utf8.{scalar}
use Rattle.run_filter.specs.Signs.{begins}

-- the value of a hexadecimal digit
unfoldable pub hex_digit : ℕ → Option ℕ
hex_digit b = if is_digit b 16 then Some (digit_value b) else None

-- a number with a digit more, where it is below 2 ^ 32
abbrev pub with_digit : ℕ → Option ℕ → Option ℕ
with_digit n None = None
with_digit n (Some d) = if nat_lt (n * 16 + d) (2 ^ 32) then Some (n * 16 + d) else None

-- the number that hexadecimal digits stand for, after the digits of another
abbrev pub hex_on : ℕ → List ℕ → Option ℕ
hex_on n [] = Some n
hex_on n (b ∷ bs) = option_and_then (λ m. hex_on m bs) (with_digit n (hex_digit b))

-- the character of a number, if it has one
abbrev pub char_numbered : ℕ → Option ℕ
char_numbered n = if scalar n then Some n else None

-- one to six hexadecimal digits up to a `}`: the character, and how many bytes it takes with `\u{` and `}`
abbrev pub up_to_brace : List ℕ → Option ℕ → Option (ℕ × ℕ)
up_to_brace text None = None
up_to_brace text (Some close) =
    if nat_le 1 close && nat_le close 6
    then option_map (λ c. (c, close + 4)) (option_and_then char_numbered (hex_on 0 (take close text)))
    else None

-- the character that follows a `\` by its number
unfoldable pub numbered_char : List ℕ → Option (ℕ × ℕ)
numbered_char text =
    if begins text (codes "u{") then up_to_brace (drop 2 text) (position (λ b. b == 125) (drop 2 text)) else None
