-- The next turn was taken, or wasn't.
use Rattle.std.proofs.Common.{◌∙◌, sym}
use Rattle.run_generate.proofs.ShortLemmas.{stops_short}
use Rattle.run_generate.proofs.WayLemmas.{same_error, takes_next}
use Rattle.run_generate.proofs.on_way.OnWay.take.Goals as goal

pub returns-in-Ok-clause-advances : goal.returns-in-Ok-clause-advances
returns-in-Ok-clause-advances c =
    takes_next c.args.self.now c.step.new.self c.step.new.report c.step.new.children c.of-self.result c.in-Some.turn
    c.in-Ok.field-0 c.requires.way (c.requires.next ∙ c.in-Some.is)
    (c.in-Ok.ensures.takes c.requires.way.0 c.requires.way.1.stands) c.of-self.ensures

pub returns-in-Err : goal.returns-in-Err
returns-in-Err c = record {
  advances = tt;
  short = λ e. stops_short c.args.self.now c.in-Some.turn c.in-Err.error c.requires.way (c.requires.next ∙ c.in-Some.is)
      c.requires.goes_on (c.in-Err.ensures.refused c.requires.way.0 c.requires.way.1.stands)
      (sym c.of_step.ensures ∙ same_error _ _ e);
}
