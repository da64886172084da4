use Rattle.std.proofs.Common.{◌≡◌, ◌+◌, ◌∷◌, length}
use denote.Text.{Utf8}
use denote.Shadow.{shadow}
use Rattle.std.specs.Str.{chars}
use Rattle.run_filter.specs.declared.glob.Piece.TheVariants.{Star}
use Rattle.run_filter.specs.Globs.{fits}
use Rattle.run_filter.proofs.matching.fits_after_star.Given as goal

abbrev pub invariant-loop-rest : goal.invariant-loop-rest
invariant-loop-rest l = record {
  text : shadow (Utf8 l.text);
  fit : fits (Star ∷ l.pieces) (chars l.text) ≡ fits (Star ∷ l.fn.pieces) (chars l.fn.text);
}

abbrev pub decreases-loop-rest : goal.decreases-loop-rest
decreases-loop-rest l = length l.pieces + length (chars l.text)
