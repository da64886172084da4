use Rattle.std.proofs.Common.{◌≡◌, length, ap, subst, ◌∙◌}
use Rattle.run_clock.specs.Sleep.{IsDueFrom}
use Rattle.run_model.specs.Admission.{units_in}
use Rattle.run_model.specs.Board.{board}
use Rattle.run_model.specs.Journal.{past_of}
use Rattle.run_model.specs.Words.{sub_run}
use Rattle.run_laws.proofs.board.OnBoard.{units-length}
use Rattle.run_state.specs.Due.{is_any_due}
use Rattle.run_state.specs.Held.{Held, held}
use Rattle.run_engine.specs.World.{World, history_of}
use Rattle.run_engine.proofs.run.Run.next_due.Goals as goal

pub returns-clause-due : goal.returns-clause-due
returns-clause-due c sound =
    let p = c.self.inside.settings in
    let past = past_of p c.self.inside.journal.items in
    let stands : c.self.inside.state ≡ held p (board p past) = c.self.invariant.stands c.if-self.false in
    let whole : length c.self.inside.state.board.units ≡ units_in p =
    ap (λ (h : Held). length h.board.units) stands ∙ units-length p (sub_run past) in
    subst (λ (w : World). IsDueFrom (is_any_due w.settings (board w.settings (history_of w))) c.next_due.result)
    c.self.view_is
    (subst (λ (h : Held). IsDueFrom (is_any_due p h.board) c.next_due.result) stands (c.next_due.ensures p whole))
