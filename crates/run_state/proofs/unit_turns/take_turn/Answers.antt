use Rattle.std.proofs.Common.{◌++◌, filter_map, option_to_list, ap, ap₂, subst, ◌∙◌}
use Rattle.run_model.specs.Board.{Board, moved, unit_in}
use Rattle.run_model.specs.Rounds.{answer_of}
use Rattle.run_model.specs.Turns.{taken_deed}
use Rattle.run_state.specs.Held.{Held}
use Rattle.run_state.specs.Placed.{FitsUnits}
use Rattle.run_state.proofs.DeedLemmas.{unit_moved}
use Rattle.run_state.proofs.unit_turns.take_turn.Goals as goal

pub invariant_of-state-2 : goal.invariant_of-state-2
invariant_of-state-2 c =
    subst (λ asks. FitsUnits asks c.act.new.units c.act.new.holders c.act.new.admission) c.round_request-asks.ensures
    c.act.ensures.fits

pub invariant_of-state-in_err-keep_answers : goal.invariant_of-state-in_err-keep_answers
invariant_of-state-in_err-keep_answers c =
    subst (λ asks. FitsUnits asks c.act.new.units c.act.new.holders c.act.new.admission) c.round_request-asks.ensures
    c.act.ensures.fits

pub returns-clause-after : goal.returns-clause-after
returns-clause-after c =
    let b : Board = record {
      units = c.state.inside.units;
      queue = c.state.inside.queue.items;
      answers = c.state.inside.answers.items;
      dispatcher = c.state.inside.dispatcher;
      clock = c.state.inside.clock;
      refused = c.state.inside.refused;
    } in
    let deed = taken_deed b.clock c.args.unit c.args.turn (unit_in b c.args.unit) in
    unit_moved b deed.part deed.sent deed.info deed.asked c.act.new.units c.send.new.queue.items
    c.keep_answers.new.answers.items c.in_ok-effects.ensures.after
    (c.send.ensures ∙ ap₂ (λ items sent. items ++ option_to_list sent) c.make_room.ensures.queue
    c.in_ok-effects.ensures.sent)
    (c.in_ok-keep_answers.ensures
    ∙ ap (λ items. items ++ filter_map (answer_of c.round_request-asks.result) c.in_ok-effects.effects.info)
    c.make_room.ensures.answers
    ∙ ap₂ (λ asks info. b.answers ++ filter_map (answer_of asks) info) c.round_request-asks.ensures
    c.in_ok-effects.ensures.info)
    ∙ ap (λ (h : Held). moved h.board (taken_deed h.board.clock c.args.unit c.args.turn (unit_in h.board c.args.unit)))
    c.state.view_is
