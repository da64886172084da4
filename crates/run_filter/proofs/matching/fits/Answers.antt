use Rattle.std.proofs.Common.{◌∙◌, sym}
use Rattle.std.specs.Str.{chars}
use Rattle.run_filter.proofs.GlobLemmas.{fits-at_star}
use Rattle.run_filter.proofs.matching.fits.Goals as goal

pub returns-in-AtStar : goal.returns-in-AtStar
returns-in-AtStar c =
    c.fits_after_star.ensures
    ∙ sym (fits-at_star c.args.pieces.now (chars c.args.text.now) c.in-AtStar.rest.now (chars c.in-AtStar.left.now)
    c.in-AtStar.ensures.1)
