use Rattle.std.proofs.Common.{[], if◌then◌else◌, None, refl, ap, ◌∙◌, sym, subst}
use Rattle.run_model.specs.Cancel.{time_is_up, is_above}
use Rattle.run_model.specs.Rounds.{opens_round}
use Rattle.run_model.specs.Turns.{cancels_for}
use Rattle.run_state.specs.Done.{Done}
use Rattle.run_state.specs.Held.{Held}
use Rattle.run_state.proofs.RoundLemmas.{done_own}
use Rattle.run_dispatch.proofs.FinishLemmas.{no_round}
use Rattle.run_state.specs.Counted.{holders_in}
use Rattle.run_state.proofs.PlaceLemmas.{tests-kept}
use Rattle.run_state.proofs.run_turns.run_out.Goals as goal

pub invariant_of-state-in_err-broadcast : goal.invariant_of-state-in_err-broadcast
invariant_of-state-in_err-broadcast c =
    let a = c.state.inside.kept.limits in (
      tests-kept c.state.inside.units c.broadcast.new.units a a c.state.invariant.0 c.broadcast.ensures.scripts refl,
      c.broadcast.ensures.counted
          ∙ ap (λ asks. holders_in asks c.broadcast.new.units) c.round_request-asks.ensures,
      c.state.invariant.2,
    )

pub invariant_of-state-2 : goal.invariant_of-state-2
invariant_of-state-2 c =
    let a = c.state.inside.kept.limits in (
      tests-kept c.state.inside.units c.broadcast.new.units a a c.state.invariant.0 c.broadcast.ensures.scripts refl,
      c.broadcast.ensures.counted
          ∙ ap (λ asks. holders_in asks c.broadcast.new.units) c.round_request-asks.ensures,
      c.state.invariant.2,
    )

pub returns : goal.returns
returns c =
    let old : Held = record {
      board = record {
        units = c.state.inside.units;
        queue = c.state.inside.queue.items;
        answers = c.state.inside.answers.items;
        dispatcher = c.state.inside.dispatcher;
        clock = c.state.inside.clock;
        refused = c.state.inside.refused;
      };
      kept = c.state.inside.kept;
    } in
    let deed = cancels_for old.board.clock old.board.dispatcher time_is_up in
    subst (λ (h : Held). Done h (cancels_for h.board.clock h.board.dispatcher time_is_up)
    (record old { board = record old.board { units = c.broadcast.new.units; dispatcher = c.global_due.new.self } })
    c.telling.result)
    c.state.view_is
    (done_own old deed c.broadcast.new.units c.state.inside.answers.items c.global_due.new.self c.in_ok-effects.effects
    None
    c.telling.result
    (record { part = refl; sent = refl; info = refl; taken = refl; closes = refl; tells = refl; begins = refl })
    c.in_ok-broadcast.ensures.after
    (sym (ap (λ request. if opens_round request then [] else c.state.inside.answers.items)
    c.in_ok-effects.ensures.does.request
    ∙ ap (λ opens. if opens then [] else c.state.inside.answers.items)
    (no_round (is_above old.board.dispatcher.tally.stats.cancel_reason time_is_up.reason) time_is_up.request refl)))
    c.in_ok-effects.ensures.does c.telling.ensures)
