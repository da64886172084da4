use Rattle.std.proofs.Common.{◌∙◌, sym}
use Rattle.std.specs.Str.{chars}
use Rattle.run_filter.proofs.GlobLemmas.{fits-none, fits-left}
use Rattle.run_filter.proofs.matching.walk_to_star.Goals as goal

pub returns-in-None : goal.returns-in-None
returns-in-None c =
    sym c.loop-pieces.invariant.fit
    ∙ fits-none c.loop-pieces.pieces.now (chars c.loop-pieces.text.now) c.in_default.len_below c.in-None.ensures

pub returns-in-Some-first_char : goal.returns-in-Some-first_char
returns-in-Some-first_char c =
    sym c.loop-pieces.invariant.fit
    ∙ fits-left c.loop-pieces.pieces.now (chars c.loop-pieces.text.now) c.in-Some-first_char.field-0.0
    (chars c.in-Some-first_char.field-0.1.now) c.in_default.len_below c.in-Some-first_char.ensures
