use Rattle.std.proofs.Common.{◌∙◌, sym}
use Rattle.std.specs.Str.{chars}
use Rattle.run_filter.proofs.GlobLemmas.{star-fits, star-at_star, at_star-smaller}
use Rattle.run_filter.proofs.matching.fits_after_star.Goals as goal

pub returns-in-Fits : goal.returns-in-Fits
returns-in-Fits c =
    sym (star-fits c.loop-rest.pieces.now (chars c.loop-rest.text.now) c.in-Fits.ensures) ∙ c.loop-rest.invariant.fit

pub loop-rest-smaller-in-AtStar : goal.loop-rest-smaller-in-AtStar
loop-rest-smaller-in-AtStar c =
    at_star-smaller c.loop-rest.pieces.now (chars c.loop-rest.text.now) c.in-AtStar.rest.now
    (chars c.in-AtStar.left.now)
    c.in-AtStar.ensures.1

pub loop-rest-preserved-in-AtStar : goal.loop-rest-preserved-in-AtStar
loop-rest-preserved-in-AtStar c = record {
  text = c.in-AtStar.ensures.0;
  fit =
      sym (star-at_star c.loop-rest.pieces.now (chars c.loop-rest.text.now) c.in-AtStar.rest.now
      (chars c.in-AtStar.left.now)
      c.in-AtStar.ensures.1)
      ∙ c.loop-rest.invariant.fit;
}
