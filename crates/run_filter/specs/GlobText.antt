-- The glob that a text is. A text is the list of its characters.
use Rattle.std.specs.Prelude.{ℕ, zero, suc, ◌+◌, ◌==◌, ◌||◌, not, Bool, List, [], ◌∷◌, Option}
use Rattle.std.specs.Prelude.{false, Some, None, option_map, nat_eq, nat_le, length, drop, take}
use Rattle.std.specs.Prelude.{if◌then◌else◌}
use Rattle.std.specs.List.{prefix_len}
use Rattle.run_filter.specs.declared.glob.Range.{Range}
use Rattle.run_filter.specs.declared.glob.Piece.{Piece}
use Rattle.run_filter.specs.declared.glob.Piece.TheVariants.{Char, AnyChar, Star, Class}
use Rattle.run_filter.specs.declared.glob.Glob.{Glob}

-- an item that a text begins with, and how many characters it takes
abbrev pub ItemRead : Type 0 → Type 0
ItemRead A = Option (A × ℕ)

abbrev pub items_step : {A : Type 0} → (List ℕ → Option (List A)) → List ℕ → ItemRead A → Option (List A)
items_step others text None = None
items_step others text (Some r) = option_map (λ items. r.0 ∷ items) (others (drop r.1 text))

-- the items of a text, each read so, of which there are no more than this
unfoldable pub items_of : {A : Type 0} → (List ℕ → ItemRead A) → ℕ → List ℕ → Option (List A)
items_of first zero text = Some []
items_of first (suc n) text =
    if nat_eq (length text) 0 then Some [] else items_step (items_of first n) text (first text)

-- ---- classes

-- from one character to another, not before it
abbrev pub range_between : ℕ → ℕ → ItemRead Range
range_between first last = if nat_le first last then Some (record { first = first; last = last }, 3) else None

abbrev pub one_char : ℕ → ItemRead Range
one_char c = Some (record { first = c; last = c }, 1)

-- the range that a class begins with: `a-z`, or a character alone, as `-` is at an end
unfoldable pub first_range : List ℕ → ItemRead Range
first_range [] = None
first_range (a ∷ []) = one_char a
first_range (a ∷ b ∷ []) = one_char a
first_range (a ∷ b ∷ c ∷ cs) = if b == 45 then range_between a c else one_char a

-- what a class has, up to its `]`: one character at least, which may be `]`
abbrev pub class_len : List ℕ → ℕ
class_len [] = 0
class_len (c ∷ cs) = 1 + prefix_len (λ d. not (d == 93)) cs

-- a `!` or a `^` at the beginning: none of what follows
abbrev pub negates : List ℕ → Bool
negates [] = false
negates (c ∷ cs) = c == 33 || c == 94

abbrev pub class_start : List ℕ → ℕ
class_start text = if negates text then 1 else 0

abbrev pub class_with : Bool → ℕ → Option (List Range) → ItemRead Piece
class_with negated taken None = None
class_with negated taken (Some ranges) = Some (Class negated ranges, taken)

-- the class whose text, after its `[`, has no more than `len` characters before the `]`
abbrev pub class_of : List ℕ → List ℕ → ℕ → ItemRead Piece
class_of text body len =
    if nat_le (length body) len then None
    else class_with (negates text) (class_start text + len + 2) (items_of first_range len (take len body))

-- the class that follows a `[`
unfoldable pub class_piece : List ℕ → ItemRead Piece
class_piece text =
    let body = drop (class_start text) text in
    class_of text body (class_len body)

-- ---- pieces

-- after a `\`: the character for itself
abbrev pub escaped_piece : List ℕ → ItemRead Piece
escaped_piece [] = None
escaped_piece (c ∷ cs) = Some (Char c, 2)

-- the piece that a text begins with
unfoldable pub first_piece : List ℕ → ItemRead Piece
first_piece [] = None
first_piece (c ∷ cs) =
    if c == 92 then escaped_piece cs
    else if c == 63 then Some (AnyChar, 1)
    else if c == 42 then Some (Star, 1)
    else if c == 91 then class_piece cs
    else if c == 123 || c == 125 then None
    else Some (Char c, 1)

-- the glob that a text is, if it is one
unfoldable pub glob_of : List ℕ → Option Glob
glob_of text =
    option_map (λ pieces. record { alternatives = pieces ∷ [] }) (items_of first_piece (length text) text)
