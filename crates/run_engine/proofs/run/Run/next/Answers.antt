use Rattle.std.proofs.Common.{◌≡◌, false, length, ap, sym, subst, ◌∙◌}
use Rattle.run_laws.specs.Ready.{IsTimelyBoard}
use Rattle.run_state.specs.Held.{Held, KeepsSeats}
use Rattle.run_model.specs.Admission.{units_in}
use Rattle.run_model.specs.Journal.{past_of}
use Rattle.run_model.specs.Words.{sub_run}
use Rattle.run_laws.proofs.board.OnBoard.{units-length}
use Rattle.run_laws.proofs.board.Ready.{timely}
use Rattle.std.proofs.Common.{option_map}
use Rattle.run_model.specs.Board.{board}
use Rattle.run_state.specs.Settle.{settled_turn}
use Rattle.run_engine.specs.World.{World}
use Rattle.run_engine.specs.Settling.{first_settled}
use Rattle.run_engine.proofs.CarryLemmas.{seated}
use Rattle.run_engine.proofs.SettlingLemmas.{settled_on}
use Rattle.run_engine.proofs.run.Run.next.Goals as goal

pub next_settled-requires-clause-whole : goal.next_settled-requires-clause-whole
next_settled-requires-clause-whole c =
    let sound : c.self.inside.broken ≡ false = rw (sym c.self.view_is) at c.requires in
    ap (λ (h : Held). length h.board.units) (c.self.invariant.stands sound)
    ∙ units-length c.self.inside.settings (sub_run (past_of c.self.inside.settings c.self.inside.journal.items))
    ∙ ap units_in (sym c.get.ensures)

pub next_settled-requires-clause-timely : goal.next_settled-requires-clause-timely
next_settled-requires-clause-timely c =
    let sound : c.self.inside.broken ≡ false = rw (sym c.self.view_is) at c.requires in
    subst (λ (h : Held). IsTimelyBoard h.board) (sym (c.self.invariant.stands sound))
    (timely c.self.inside.settings c.self.inside.journal.items c.self.invariant.runnable.legal)

pub next_settled-requires-clause-seated : goal.next_settled-requires-clause-seated
next_settled-requires-clause-seated c =
    let sound : c.self.inside.broken ≡ false = rw (sym c.self.view_is) at c.requires in
    subst (λ p. KeepsSeats p c.self.inside.state) (sym c.get.ensures)
    (seated c.self.inside.settings c.self.inside.state _ (c.self.invariant.stands sound))

pub returns : goal.returns
returns c =
    let sound : c.self.inside.broken ≡ false = rw (sym c.self.view_is) at c.requires in
    let p = c.self.inside.settings in
    subst (λ (w : World). option_map settled_turn c.next_settled.result ≡ first_settled w c.args.word) c.self.view_is
    (c.next_settled.ensures
    ∙ settled_on p c.get.result.now c.self.inside.state (board p (past_of p c.self.inside.journal.items)) c.args.word
    c.get.ensures (c.self.invariant.stands sound))
