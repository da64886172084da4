use Rattle.std.proofs.Common.{◌≡◌, false, sym, subst, ap}
use Rattle.run_model.specs.Board.{board}
use Rattle.run_model.specs.Journal.{past_of}
use Rattle.run_state.specs.Held.{held}
use Rattle.run_engine.specs.Standing.{IsStanding}
use Rattle.run_engine.specs.World.{World}
use Rattle.run_engine.proofs.StartsLemmas.{claims_next}
use Rattle.run_engine.proofs.run.Run.take_named.Goals as goal

pub carry_out-requires-clause-stands : goal.carry_out-requires-clause-stands
carry_out-requires-clause-stands g c =
    let sound : c.self.inside.broken ≡ false = rw (sym c.self.view_is) at c.requires.sound in
    subst (λ p. c.self.inside.state ≡ held p (board p (past_of p c.self.inside.journal.items))) (sym
    c.get-settings.ensures)
    (c.self.invariant.stands sound)

pub invariant_of-self : goal.invariant_of-self
invariant_of-self g c =
    let sound : c.self.inside.broken ≡ false = rw (sym c.self.view_is) at c.requires.sound in
    let after = c.carry_out.new in
    let takes = c.in-Ok.ensures.takes 0 in
    subst (λ p. IsStanding p after.journal.items after.state c.self.inside.broken after.starts.items
    c.self.inside.claimed)
    c.get-settings.ensures (record {
      runnable = c.in-Ok.ensures.runnable;
      stands = λ whole. c.in-Ok.ensures.stands;
      unfinished = λ broken. cc;
      claims = claims_next _ c.self.inside.settings c.self.inside.journal.items after.journal.items
          c.self.inside.state c.args.turn takes.refused c.self.inside.starts.items after.starts.items
          c.self.inside.claimed c.get-settings.ensures c.self.invariant.claims (c.self.invariant.stands sound)
          c.in-Ok.ensures.waits (ap (λ (w : World). w.journal) takes.grown);
    })
