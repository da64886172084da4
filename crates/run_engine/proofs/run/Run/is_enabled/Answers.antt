use Rattle.std.proofs.Common.{length, ap, sym, subst, ◌∙◌}
use Rattle.run_laws.specs.Ready.{IsTimelyBoard}
use Rattle.run_state.specs.Held.{Held}
use Rattle.run_model.specs.Admission.{units_in}
use Rattle.run_model.specs.Journal.{past_of}
use Rattle.run_model.specs.Words.{sub_run}
use Rattle.run_laws.proofs.board.OnBoard.{units-length}
use Rattle.run_laws.proofs.board.Ready.{timely}
use Rattle.run_engine.proofs.run.Run.is_enabled.Goals as goal

pub is_enabled-requires-clause-whole : goal.is_enabled-requires-clause-whole
is_enabled-requires-clause-whole c =
    ap (λ (h : Held). length h.board.units) (c.self.invariant.stands c.if-self.false)
    ∙ units-length c.self.inside.settings (sub_run (past_of c.self.inside.settings c.self.inside.journal.items))
    ∙ ap units_in (sym c.get.ensures)

pub is_enabled-requires-clause-timely : goal.is_enabled-requires-clause-timely
is_enabled-requires-clause-timely c =
    subst (λ (h : Held). IsTimelyBoard h.board) (sym (c.self.invariant.stands c.if-self.false))
    (timely c.self.inside.settings c.self.inside.journal.items c.self.invariant.runnable.legal)
