use Rattle.std.proofs.Common.{refl, Some}
use Rattle.run_keep.proofs.SayLemmas.{minded_refused, minded_word}
use Rattle.run_keep.proofs.saying.say_word.Goals as goal

pub returns-in-Some-clause-minded : goal.returns-in-Some-clause-minded
returns-in-Some-clause-minded g c = λ on.
    minded_refused g.K.Keeper.has_heard c.args.keeper.now (Some (c.args.unit, on)) c.into_turn.result
    c.in-Some.refusal c.args.work.now _ (rw c.in-Some.is at c.in_ok-refusal.ensures.enters) refl refl refl

pub returns-in_ok-accept-in-None-clause-minded : goal.returns-in_ok-accept-in-None-clause-minded
returns-in_ok-accept-in-None-clause-minded g c = λ on.
    minded_word g.K.Keeper.has_heard c.args.keeper.now c.accept.new.self c.args.unit on c.args.said c.args.work.now _
    (c.in_ok-accept-in-None.ensures.said c.args.said c.requires.offered) c.requires.goes_on
    (rw (c.in-None.is, c.into_turn.ensures) at c.in_ok-refusal.ensures.enters) refl refl refl
