use Rattle.std.proofs.Common.{◌≡◌, ap, ap₂, sym, ◌∙◌}
use Rattle.run_model.specs.Admission.{limits_of}
use Rattle.run_model.specs.Board.{Board, deed_events, moved}
use Rattle.run_model.specs.Turns.{begin_deed}
use Rattle.run_state.specs.declared.effects.Effects.{Effects}
use Rattle.run_state.specs.declared.kept.Kept.{Kept}
use Rattle.run_state.specs.Held.{Held, kept_of}
use Rattle.run_state.proofs.DeedLemmas.{kept_with}
use Rattle.run_state.proofs.RoundLemmas.{begun_moved}
use Rattle.run_state.proofs.StartLemmas.{fits-anew, limits-anew, tests-many}
use Rattle.run_state.proofs.run_turns.begin.Goals as goal

pub invariant_of-state-in_err-effects : goal.invariant_of-state-in_err-effects
invariant_of-state-in_err-effects c =
    fits-anew c.args.settings.now c.begin.new.self.rounds.asks c.renew.new.units c.renew.new.admission
    c.in_ok-renew.ensures.none c.in_ok-renew.ensures.limits

pub invariant_of-state-2 : goal.invariant_of-state-2
invariant_of-state-2 c =
    fits-anew c.args.settings.now c.begin.new.self.rounds.asks c.renew.new.units c.renew.new.admission
    c.in_ok-renew.ensures.none c.in_ok-renew.ensures.limits

pub returns-clause-after : goal.returns-clause-after
returns-clause-after c =
    let b : Board = record {
      units = c.state.inside.units;
      queue = c.state.inside.queue.items;
      answers = c.state.inside.answers.items;
      dispatcher = c.state.inside.dispatcher;
      clock = c.state.inside.clock;
      refused = c.state.inside.refused;
    } in
    let us = c.renew.new.units in
    ap₂ (λ queue answers. record b { units = us; queue = queue; answers = answers; dispatcher = c.begin.new.self })
    c.truncate.ensures.items c.truncate-2.ensures.items
    ∙ begun_moved b us c.begin.new.self c.in_ok-renew.ensures.count c.in_ok-renew.ensures.none
    c.in_ok-effects.ensures.does.after
    ∙ ap (λ (h : Held). moved h.board (begin_deed h.board)) c.state.view_is

pub returns-clause-seated : goal.returns-clause-seated
returns-clause-seated c =
    let p = c.args.settings.now in
    let us = c.state.inside.units in
    let vs = c.renew.new.units in
    let kept : c.state.inside.kept ≡ kept_of p us = rw (sym c.state.view_is) at c.requires.seated in
    let seated : c.state.inside.kept.limits ≡ limits_of p us = ap (λ (k : Kept). k.limits) kept in
    kept_with p us vs c.state.inside.kept c.renew.new.admission kept
    (c.in_ok-renew.ensures.limits
    ∙ limits-anew p vs c.in_ok-renew.ensures.none
    (tests-many p us vs c.state.inside.kept.limits seated c.state.invariant.2 c.in_ok-renew.ensures.count))

pub returns-clause-told : goal.returns-clause-told
returns-clause-told c =
    ap (λ (x : Effects). x.events) c.telling.ensures ∙ c.in_ok-effects.ensures.does.told
    ∙ ap (λ (h : Held). deed_events (begin_deed h.board)) c.state.view_is

pub returns-clause-asked : goal.returns-clause-asked
returns-clause-asked c =
    ap (λ (x : Effects). x.asked) c.telling.ensures ∙ c.in_ok-effects.ensures.does.asked
    ∙ ap (λ (h : Held). (begin_deed h.board).asked) c.state.view_is
