use Rattle.std.proofs.Common.{◌≡◌, ◌≤◌, ◌++◌, option_map, option_to_list, Some, length, ap, sym, subst, ◌∙◌, arith}
use Rattle.run_admission.specs.InUse.{Admissions, admitted, after_admission}
use Rattle.run_model.specs.Admission.{limits_of, newcomer, scripts_in, units_in}
use Rattle.run_model.specs.Board.{Board, moved}
use Rattle.run_model.specs.Turns.{admission, index_of}
use Rattle.run_state.specs.declared.kept.Kept.{Kept}
use Rattle.run_state.specs.Held.{Held, kept_of, units_with}
use Rattle.run_state.specs.Counted.{holders_in}
use Rattle.run_state.specs.Placed.{AreTests}
use Rattle.run_state.proofs.DeedLemmas.{admission_moved, kept_with}
use Rattle.run_state.proofs.HoldersLemmas.{holders_joined}
use Rattle.run_state.proofs.PlaceLemmas.{seats-admitted, tests-after}
use Rattle.run_state.proofs.SeatLemmas.{limits-after}
use Rattle.run_state.proofs.joining.admit_test.Goals as goal

pub returns-clause-seated : goal.returns-clause-seated
returns-clause-seated c =
    let p = c.args.settings.now in
    let us = c.state.inside.units in
    let index = index_of c.state.inside.dispatcher in
    let kept : c.state.inside.kept ≡ kept_of p us = rw (sym c.state.view_is) at c.requires.seated in
    let seated : c.state.inside.kept.limits ≡ limits_of p us = ap (λ (k : Kept). k.limits) kept in
    let next : admitted (limits_of p us) ≡ Some c.in-Some.admitted =
    ap admitted (sym seated) ∙ sym c.admit.ensures.admitted ∙ c.in-Some.is in
    kept_with p us c.seat.new.units c.state.inside.kept c.admit.new.self kept
    (c.admit.ensures.after ∙ ap after_admission seated
    ∙ limits-after p index us c.in-Some.admitted (rw (sym c.state.view_is) at c.requires.over) next
    ∙ sym (ap (limits_of p) (c.in_ok-seat-in-Some.ensures.units
    ∙ ap (λ index. units_with p us (newcomer p index us)) c.stress_index-index.ensures)))

pub returns-clause-after : goal.returns-clause-after
returns-clause-after c =
    let p = c.args.settings.now in
    let b : Board = record {
      units = c.state.inside.units;
      queue = c.state.inside.queue.items;
      answers = c.state.inside.answers.items;
      dispatcher = c.state.inside.dispatcher;
      clock = c.state.inside.clock;
      refused = c.state.inside.refused;
    } in
    let us = b.units in
    admission_moved p b (newcomer p (index_of b.dispatcher) us) c.seat.new.units c.seat.new.queue.items
    (c.in_ok-seat-in-Some.ensures.units
    ∙ ap (λ index. units_with p us (newcomer p index us)) c.stress_index-index.ensures)
    (c.in_ok-seat-in-Some.ensures.queue
    ∙ ap (λ index. b.queue ++ option_to_list (option_map (λ n. n.sent) (newcomer p index us)))
    c.stress_index-index.ensures)
    ∙ ap (λ (h : Held). moved h.board (admission (newcomer p (index_of h.board.dispatcher) h.board.units)))
    c.state.view_is

pub invariant_of-state-in-Some : goal.invariant_of-state-in-Some
invariant_of-state-in-Some c =
    let p = c.args.settings.now in
    let us = c.state.inside.units in
    let a = c.state.inside.kept.limits in
    let index = index_of c.state.inside.dispatcher in
    let kept : c.state.inside.kept ≡ kept_of p us = rw (sym c.state.view_is) at c.requires.seated in
    let seated : a ≡ limits_of p us = ap (λ (k : Kept). k.limits) kept in
    let whole : length us ≡ units_in p = rw (sym c.state.view_is) at c.requires.can.whole in
    let many : scripts_in p ≤ length us = omega (arith, whole) in
    let seats : length c.admit.new.self.seats ≡ length a.seats =
    ap (λ (b : Admissions). length b.seats) c.admit.ensures.after ∙ seats-admitted a.seats (admitted a) in
    let asks = c.state.inside.dispatcher.rounds.asks in
    let joined : c.seat.new.units ≡ units_with p us (newcomer p index us) =
    c.in_ok-seat-in-Some.ensures.units
    ∙ ap (λ index. units_with p us (newcomer p index us)) c.stress_index-index.ensures in (
      subst (λ vs. AreTests vs c.admit.new.self) (sym joined)
          (tests-after p index us a c.admit.new.self c.state.invariant.0 seated seats many),
      c.state.invariant.1 ∙ holders_joined asks p index us ∙ sym (ap (holders_in asks) joined),
      seats ∙ c.state.invariant.2 ∙ sym (ap (λ (b : Admissions). length b.claims) c.admit.ensures.after),
    )
