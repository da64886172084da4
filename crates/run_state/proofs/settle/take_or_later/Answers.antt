use Rattle.std.proofs.Common.{rules, refl, sym, ◌∙◌}
use Rattle.run_events.specs.declared.turn.Turn.TheVariants as turns
use Rattle.run_state.proofs.SettleLemmas.{unit_none}
use Rattle.run_state.proofs.settle.take_or_later.Goals as goal

pub returns-in-None : goal.returns-in-None
returns-in-None c =
    c.decide_or_later.ensures
    ∙ sym (unit_none c.args.settings.now c.args.state.now.board (λ unit. turns.Take unit) _ _
    (λ k. refl) c.requires.going c.requires.whole
    (c.first_units-firsts.ensures.take.1 (search rules)))
