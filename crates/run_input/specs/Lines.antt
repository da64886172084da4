-- The lines of an input.
use Rattle.std.specs.Prelude.{ℕ, ◌==◌, List, [], ◌∷◌, if◌then◌else◌}

-- a byte at the front of the first line
abbrev pub at_front : ℕ → List (List ℕ) → List (List ℕ)
at_front byte [] = (byte ∷ []) ∷ []
at_front byte (line ∷ lines) = (byte ∷ line) ∷ lines

-- the lines without their ends: each ends at a byte 10, which the last one may lack
abbrev pub lines_of : List ℕ → List (List ℕ)
lines_of [] = []
lines_of (byte ∷ bytes) = if byte == 10 then [] ∷ lines_of bytes else at_front byte (lines_of bytes)
