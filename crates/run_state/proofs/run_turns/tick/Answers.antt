use Rattle.std.proofs.Common.{[], if◌then◌else◌, None, refl, ap, sym, subst}
use Rattle.run_model.specs.Board.{reach_all}
use Rattle.run_model.specs.Rounds.{opens_round}
use Rattle.run_model.specs.Turns.{ticks}
use Rattle.run_state.specs.Done.{Done}
use Rattle.run_state.specs.Held.{Held}
use Rattle.run_state.proofs.RoundLemmas.{done_own, holders_kept}
use Rattle.run_state.proofs.run_turns.tick.Goals as goal

pub invariant_of-state-2 : goal.invariant_of-state-2
invariant_of-state-2 c = (
  c.state.invariant.0,
  holders_kept c.state.inside.clock c.state.inside.dispatcher c.tick.new.self
      ticks c.state.inside.units c.state.inside.holders
      c.state.invariant.1 (c.in_ok-effects.ensures.does c.state.inside.clock).after refl,
  c.state.invariant.2,
)

pub returns : goal.returns
returns c =
    let old : Held = record {
      board = record {
        units = c.state.inside.units;
        queue = c.state.inside.queue.items;
        answers = c.state.inside.answers.items;
        dispatcher = c.state.inside.dispatcher;
        clock = c.state.inside.clock;
        refused = c.state.inside.refused;
      };
      kept = c.state.inside.kept;
    } in
    subst (λ (h : Held). Done h ticks (record old { board = record old.board { dispatcher = c.tick.new.self } })
    c.telling.result)
    c.state.view_is
    (done_own old ticks c.state.inside.units c.state.inside.answers.items c.tick.new.self c.in_ok-effects.effects None
    c.telling.result
    (record { part = refl; sent = refl; info = refl; taken = refl; closes = refl; tells = refl; begins = refl })
    (sym (ap (λ request. reach_all request c.state.inside.units)
    (c.in_ok-effects.ensures.does c.state.inside.clock).request))
    (sym (ap (λ request. if opens_round request then [] else c.state.inside.answers.items)
    (c.in_ok-effects.ensures.does c.state.inside.clock).request))
    (c.in_ok-effects.ensures.does c.state.inside.clock) c.telling.ensures)
