use Rattle.std.proofs.Common.{◌≡◌, true, false, ◌||◌, sym, subst, ◌∙◌}
use Rattle.std.specs.List.{list_any}
use Rattle.run_clock.specs.Sleep.{IsDueFrom}
use Rattle.run_events.specs.declared.turn.Turn.TheVariants.{GlobalDue, InfoDue, StopWaitDue}
use Rattle.run_model.specs.declared.dispatcher_view.Facts.{Facts}
use Rattle.run_model.specs.declared.unit_turn.UnitTurn.TheVariants.{Due}
use Rattle.run_model.specs.Dispatch.{dispatch_takes}
use Rattle.run_model.specs.Turns.{unit_takes, facts}
use Rattle.run_state.specs.Held.{Held}
use Rattle.run_state.proofs.DueLemmas.{due-same, any-due, over-due}
use Rattle.run_state.proofs.state.State.next_due.Goals as goal

pub returns-then-is_over : goal.returns-then-is_over
returns-then-is_over c p whole now below =
    let over : c.args.self.now.board.dispatcher.over ≡ true =
    subst (λ (h : Held). h.board.dispatcher.over ≡ true) c.self.view_is (sym c.is_over.ensures ∙ c.if-is_over.true) in
    over-due p c.args.self.now.board now over

pub returns : goal.returns
returns c p whole =
    let b = c.args.self.now.board in
    let going : b.dispatcher.over ≡ false =
    subst (λ (h : Held). h.board.dispatcher.over ≡ false) c.self.view_is (sym c.is_over.ensures ∙ c.if-is_over.false) in
    let known : c.facts.result ≡ facts b = c.facts.ensures in
    let own = c.sooner-own.ensures (λ now. dispatch_takes b.dispatcher (facts b) now GlobalDue)
    (λ now. dispatch_takes b.dispatcher (facts b) now StopWaitDue || dispatch_takes b.dispatcher (facts b) now InfoDue)
    (subst (λ (h : Held). IsDueFrom (λ now. dispatch_takes h.board.dispatcher (facts b) now GlobalDue)
    c.next_due.result) c.self.view_is (c.next_due.ensures (facts b)))
    (subst (λ (h : Held). IsDueFrom (λ now. dispatch_takes h.board.dispatcher (facts b) now StopWaitDue
    || dispatch_takes h.board.dispatcher (facts b) now InfoDue) c.round_due.result) c.self.view_is
    (subst (λ (f : Facts). IsDueFrom (λ now. dispatch_takes c.self.inside.dispatcher f now StopWaitDue
    || dispatch_takes c.self.inside.dispatcher f now InfoDue) c.round_due.result) known c.round_due.ensures)) in
    due-same _ _ c.sooner.result (λ now. any-due p b now going whole)
    (c.sooner.ensures
    (λ now. dispatch_takes b.dispatcher (facts b) now GlobalDue
    || (dispatch_takes b.dispatcher (facts b) now StopWaitDue || dispatch_takes b.dispatcher (facts b) now InfoDue))
    (λ now. list_any (λ u. unit_takes now u Due) b.units) own
    (subst (λ (h : Held). IsDueFrom (λ now. list_any (λ u. unit_takes now u Due) h.board.units) c.next_due-2.result)
    c.self.view_is c.next_due-2.ensures))
