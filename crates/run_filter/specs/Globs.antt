-- Which texts a glob fits. A text is the list of its characters.
use Rattle.std.specs.Prelude.{ℕ, Bool, true, false, ◌&&◌, ◌||◌, not, List, [], ◌∷◌, nat_eq, nat_le}
use Rattle.std.specs.List.{list_any}
use Rattle.run_filter.specs.declared.glob.Range.{Range}
use Rattle.run_filter.specs.declared.glob.Piece.{Piece}
use Rattle.run_filter.specs.declared.glob.Piece.TheVariants.{Char, AnyChar, Star, Class}
use Rattle.run_filter.specs.declared.glob.Glob.{Glob}

-- whether a character lies in one of the ranges
abbrev pub is_within : List Range → ℕ → Bool
is_within ranges c = list_any (λ range. nat_le range.first c && nat_le c range.last) ranges

-- whether two truth values differ
abbrev pub differs : Bool → Bool → Bool
differs true b = not b
differs false b = b

-- whether a piece is one character, and this one
abbrev pub takes : Piece → ℕ → Bool
takes (Char own) c = nat_eq own c
takes AnyChar c = true
takes Star c = false
takes (Class negated ranges) c = differs negated (is_within ranges c)

-- whether pieces fit a whole text: a star takes nothing or one character more, any other piece takes one
abbrev pub fits : List Piece → List ℕ → Bool
fits [] [] = true
fits [] (c ∷ cs) = false
fits (Star ∷ ps) [] = fits ps []
fits (Star ∷ ps) (c ∷ cs) = fits ps (c ∷ cs) || fits (Star ∷ ps) cs
fits (p ∷ ps) [] = false
fits (p ∷ ps) (c ∷ cs) = takes p c && fits ps cs

-- whether one of a glob's alternatives fits a text
abbrev pub fits_some : Glob → List ℕ → Bool
fits_some glob text = list_any (λ pieces. fits pieces text) glob.alternatives
