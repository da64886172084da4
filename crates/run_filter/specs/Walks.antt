-- Going along pieces up to the first star.
use Rattle.std.specs.Prelude.{ℕ, ◌≡◌, true, false, List, [], ◌∷◌, Option, Some, None, if◌then◌else◌}
use Rattle.std.specs.Str.{chars, IsUtf8}
use Rattle.run_filter.specs.declared.glob.Piece.{Piece}
use Rattle.run_filter.specs.declared.glob.Piece.TheVariants.{Star}
use Rattle.run_filter.specs.declared.matching.Walk.{Walk}
use Rattle.run_filter.specs.declared.matching.Walk.TheVariants.{Misses, Fits, AtStar}
use Rattle.run_filter.specs.Globs.{takes, fits}

-- the pieces after the first star, and the text after those before it, where they stand at its beginning
abbrev pub at_star : List Piece → List ℕ → Option (List Piece × List ℕ)
at_star [] cs = None
at_star (Star ∷ ps) cs = Some (ps, cs)
at_star (p ∷ ps) [] = None
at_star (p ∷ ps) (c ∷ cs) = if takes p c then at_star ps cs else None

-- where a walk leads
abbrev pub Walks : Walk → List Piece → List ℕ → Type 0
Walks Misses ps cs = fits ps cs ≡ false
Walks Fits ps cs = fits ps cs ≡ true
Walks (AtStar rest left) ps cs = IsUtf8 left.now × (at_star ps cs ≡ Some (rest.now, chars left.now))
