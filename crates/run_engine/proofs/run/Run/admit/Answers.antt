use Rattle.std.proofs.Common.{length, ap, sym, subst, ◌∙◌}
use Rattle.run_laws.specs.Ready.{IsTimelyBoard}
use Rattle.run_state.specs.Held.{Held, KeepsSeats}
use Rattle.run_model.specs.Admission.{units_in}
use Rattle.run_model.specs.Journal.{past_of}
use Rattle.run_model.specs.Words.{sub_run}
use Rattle.run_laws.proofs.board.OnBoard.{units-length}
use Rattle.run_laws.proofs.board.Ready.{timely}
use Rattle.run_engine.proofs.CarryLemmas.{seated}
use Rattle.run_engine.proofs.run.Run.admit.Goals as goal

pub named_if_enabled-requires-clause-whole : goal.named_if_enabled-requires-clause-whole
named_if_enabled-requires-clause-whole c =
    ap (λ (h : Held). length h.board.units) (c.self.invariant.stands c.if-self.false)
    ∙ units-length c.self.inside.settings (sub_run (past_of c.self.inside.settings c.self.inside.journal.items))
    ∙ ap units_in (sym c.get.ensures)

pub named_if_enabled-requires-clause-timely : goal.named_if_enabled-requires-clause-timely
named_if_enabled-requires-clause-timely c =
    subst (λ (h : Held). IsTimelyBoard h.board) (sym (c.self.invariant.stands c.if-self.false))
    (timely c.self.inside.settings c.self.inside.journal.items c.self.invariant.runnable.legal)

pub named_if_enabled-requires-clause-seated : goal.named_if_enabled-requires-clause-seated
named_if_enabled-requires-clause-seated c =
    subst (λ p. KeepsSeats p c.self.inside.state) (sym c.get.ensures)
    (seated c.self.inside.settings c.self.inside.state _ (c.self.invariant.stands c.if-self.false))
