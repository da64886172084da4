-- The lines of a text that begins with a line and its line feed.
use Rattle.std.proofs.Common.{◌≡◌, ◌∙◌, ℕ, ◌<◌, ◌==◌, List, [], ◌∷◌, ◌++◌, length, Bool, true, false, if◌then◌else◌}
use Rattle.std.proofs.Common.{refl, ap, append_assoc, length-append, arith}
use Rattle.std.specs.Prelude.{⊤}
use Rattle.run_input.specs.Lines.{lines_of, at_front}
use Rattle.run_input.proofs.InputLemmas.{lines_some}
use Rattle.run_output.specs.Fields.{line_bytes}

-- bytes without a line feed
abbrev pub HasNoFeed : List ℕ → Type 0
HasNoFeed [] = ⊤
HasNoFeed (byte ∷ bytes) = ((byte == 10) ≡ false) × HasNoFeed bytes

-- two such parts together have none
pub feedless_both : (first rest : List ℕ) → HasNoFeed first → HasNoFeed rest → HasNoFeed (first ++ rest)
feedless_both [] rest none more = more
feedless_both (byte ∷ first) rest none more = (none.0, feedless_both first rest none.1 more)

-- such a line, with its line feed, is the first line
ended_first : (line rest : List ℕ) → HasNoFeed line → lines_of (line ++ 10 ∷ rest) ≡ line ∷ lines_of rest
ended_first [] rest none = refl
ended_first (byte ∷ line) rest none =
    let other : (byte == 10) ≡ false = none.0 in
    rw (other, ended_first line rest none.1) refl

-- the same, as lines are written
pub line_first : (line rest : List ℕ) → HasNoFeed line → lines_of (line_bytes line ++ rest) ≡ line ∷ lines_of rest
line_first line rest none = ap lines_of (append_assoc line (10 ∷ []) rest) ∙ ended_first line rest none

-- what a byte before lines makes of these it makes of the first of them, whatever comes after
front_joined : (ends : Bool) (byte : ℕ) (all lines later : List (List ℕ)) → 0 < length lines → all ≡ lines ++ later
    → (if ends then [] ∷ all else at_front byte all) ≡ (if ends then [] ∷ lines else at_front byte lines) ++ later
front_joined ends byte all [] later some is = absurd (omega arith)
front_joined true byte all (line ∷ lines) later some is = rw is refl
front_joined false byte all (line ∷ lines) later some is = rw is refl

-- the lines of a text that ends with a line feed, and then those of what comes after it
pub lines_joined : (first rest : List ℕ)
    → lines_of (line_bytes first ++ rest) ≡ lines_of (line_bytes first) ++ lines_of rest
lines_joined [] rest = refl
lines_joined (byte ∷ first) rest =
    front_joined (byte == 10) byte (lines_of (line_bytes first ++ rest)) (lines_of (line_bytes first)) (lines_of rest)
    (lines_some (line_bytes first) (omega (arith, length-append first (10 ∷ [])))) (lines_joined first rest)
