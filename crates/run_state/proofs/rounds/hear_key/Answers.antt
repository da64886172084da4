use Rattle.std.proofs.Common.{◌≡◌, None, refl, ap, sym, subst, ◌∙◌}
use Rattle.run_events.specs.Hearing.{heard_key}
use Rattle.run_model.specs.declared.dispatcher_view.Facts.{Facts}
use Rattle.run_model.specs.Turns.{keys_at, live_in}
use Rattle.run_dispatch.specs.Deeds.{Does}
use Rattle.run_state.specs.Counted.{holders_in}
use Rattle.run_state.specs.Done.{Done}
use Rattle.run_state.specs.Held.{Held}
use Rattle.run_state.proofs.PlaceLemmas.{tests-kept}
use Rattle.run_state.proofs.RoundLemmas.{done_own, holders_unasked, key_own}
use Rattle.run_state.proofs.rounds.hear_key.Goals as goal

pub broadcast-requires : goal.broadcast-requires
broadcast-requires c =
    let d = c.state.inside.dispatcher in
    let us = c.state.inside.units in
    let now = c.state.inside.clock in
    let live = c.facts-facts.result.live in
    record {
      counted = λ none.
          holders_unasked now d c.key.new.self (keys_at now live d c.args.key) us c.state.inside.holders
          c.in_ok-effects.effects.request (key_own now live d (heard_key d.rules.hearing.input c.args.key))
          c.state.invariant.1 c.in_ok-effects.ensures.does.after c.in_ok-effects.ensures.does.request none
          ∙ sym (ap (λ asks. holders_in asks us) c.round_request-asks.ensures);
    }

pub invariant_of-state-in_err-broadcast : goal.invariant_of-state-in_err-broadcast
invariant_of-state-in_err-broadcast c =
    let a = c.state.inside.kept.limits in (
      tests-kept c.state.inside.units c.broadcast.new.units a a c.state.invariant.0 c.broadcast.ensures.scripts refl,
      c.broadcast.ensures.counted
          ∙ ap (λ asks. holders_in asks c.broadcast.new.units) c.round_request-asks.ensures,
      c.state.invariant.2,
    )

pub invariant_of-state-2 : goal.invariant_of-state-2
invariant_of-state-2 c =
    let a = c.state.inside.kept.limits in (
      tests-kept c.state.inside.units c.broadcast.new.units a a c.state.invariant.0 c.broadcast.ensures.scripts refl,
      c.broadcast.ensures.counted
          ∙ ap (λ asks. holders_in asks c.broadcast.new.units) c.round_request-asks.ensures,
      c.state.invariant.2,
    )

pub returns : goal.returns
returns c =
    let us = c.state.inside.units in
    let d = c.state.inside.dispatcher in
    let now = c.state.inside.clock in
    let old : Held = record {
      board = record {
        units = us;
        queue = c.state.inside.queue.items;
        answers = c.state.inside.answers.items;
        dispatcher = d;
        clock = now;
        refused = c.state.inside.refused;
      };
      kept = c.state.inside.kept;
    } in
    let live : c.facts-facts.result.live ≡ live_in us =
    ap (λ (f : Facts). f.live) c.facts-facts.ensures ∙ sym (ap (λ (h : Held). live_in h.board.units) c.state.view_is) in
    subst (λ (h : Held). Done h (keys_at h.board.clock (live_in h.board.units) h.board.dispatcher c.args.key)
    (record old {
      board = record old.board {
        units = c.broadcast.new.units;
        answers = c.make_way.new.answers.items;
        dispatcher = c.key.new.self;
      };
    }) c.telling.result) c.state.view_is
    (done_own old (keys_at now (live_in us) d c.args.key) c.broadcast.new.units c.make_way.new.answers.items
    c.key.new.self c.in_ok-effects.effects None c.telling.result (key_own now (live_in us) d
    (heard_key d.rules.hearing.input c.args.key))
    c.in_ok-broadcast.ensures.after c.make_way.ensures
    (subst (λ live. Does now d (keys_at now live d c.args.key) None c.key.new.self c.in_ok-effects.effects) live
    c.in_ok-effects.ensures.does) c.telling.ensures)
