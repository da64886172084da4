use Rattle.std.proofs.Common.{◌≡◌, length}
use denote.Text.{Utf8}
use denote.Shadow.{shadow}
use Rattle.std.specs.Str.{chars}
use Rattle.run_filter.specs.Globs.{fits}
use Rattle.run_filter.specs.Walks.{at_star}
use Rattle.run_filter.proofs.matching.walk_to_star.Given as goal

abbrev pub invariant-loop-pieces : goal.invariant-loop-pieces
invariant-loop-pieces l = record {
  text : shadow (Utf8 l.text);
  fit : fits l.pieces (chars l.text) ≡ fits l.fn.pieces (chars l.fn.text);
  star : at_star l.pieces (chars l.text) ≡ at_star l.fn.pieces (chars l.fn.text);
}

abbrev pub decreases-loop-pieces : goal.decreases-loop-pieces
decreases-loop-pieces l = length l.pieces
