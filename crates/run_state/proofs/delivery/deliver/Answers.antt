use Rattle.std.proofs.Common.{◌≡◌, ◌∷◌, ◌++◌, option_to_list, refl, ap, ◌∙◌}
use Rattle.run_model.specs.Board.{Board, moved, deed_events}
use Rattle.run_model.specs.Turns.{answer_to, delivers, delivery, nothing_done}
use Rattle.run_state.specs.Held.{Held}
use Rattle.run_state.proofs.DeedLemmas.{delivered, delivery_asks, delivery_tells}
use Rattle.run_state.proofs.RoundLemmas.{holders_kept}
use Rattle.run_state.proofs.delivery.deliver.Goals as goal

pub returns-clause-after : goal.returns-clause-after
returns-clause-after c =
    let b : Board = record {
      units = c.state.inside.units;
      queue = c.state.inside.queue.items;
      answers = c.state.inside.answers.items;
      dispatcher = c.state.inside.dispatcher;
      clock = c.state.inside.clock;
      refused = c.state.inside.refused;
    } in
    let rest = c.take_oldest.new.queue.items in
    let waits : c.state.inside.queue.items ≡ c.in-Some.message ∷ rest =
    c.take_oldest.ensures.taken ∙ ap (λ m. option_to_list m ++ rest) c.in-Some.is in
    let x : Board = record b { queue = rest; dispatcher = c.deliver.new.self } in
    delivered b x (moved x (answer_to x c.starting-unit.result c.in_ok-events-in-Some.field-0.go))
    c.heed.new.state.board
    c.in-Some.message rest
    c.starting-unit.result c.in_ok-events-in-Some.field-0.go c.in_ok-events-in-Some.field-0.request
    waits (ap (λ d. record b { queue = rest; dispatcher = d }) c.in_ok-events-in-Some.ensures.does.after)
    c.starting-unit.ensures c.in_ok-events-in-Some.ensures.does.go c.in_ok-events-in-Some.ensures.does.request
    refl c.in_ok-asked-in-Some.ensures.after
    ∙ ap (λ (h : Held). moved h.board (delivery h.board h.board.queue)) c.state.view_is

pub returns-clause-told : goal.returns-clause-told
returns-clause-told c =
    let b : Board = record {
      units = c.state.inside.units;
      queue = c.state.inside.queue.items;
      answers = c.state.inside.answers.items;
      dispatcher = c.state.inside.dispatcher;
      clock = c.state.inside.clock;
      refused = c.state.inside.refused;
    } in
    c.in_ok-events-in-Some.ensures.does.told
    ∙ delivery_tells b c.in-Some.message c.take_oldest.new.queue.items
    (c.take_oldest.ensures.taken ∙ ap (λ m. option_to_list m ++ c.take_oldest.new.queue.items) c.in-Some.is)
    ∙ ap (λ (h : Held). deed_events (delivery h.board h.board.queue)) c.state.view_is

pub invariant_of-state-in-Some : goal.invariant_of-state-in-Some
invariant_of-state-in-Some c =
    let d = c.state.inside.dispatcher in
    let now = c.state.inside.clock in
    let m = c.in-Some.message in (
      c.state.invariant.0,
      holders_kept now d c.deliver.new.self (delivers now d m nothing_done) c.state.inside.units c.state.inside.holders
          c.state.invariant.1 c.in_ok-events-in-Some.ensures.does.after (delivery_asks now d m nothing_done),
      c.state.invariant.2,
    )
