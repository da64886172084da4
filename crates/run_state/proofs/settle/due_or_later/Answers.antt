use Rattle.std.proofs.Common.{rules, refl, sym, ◌∙◌}
use Rattle.run_events.specs.declared.turn.Turn.TheVariants as turns
use Rattle.run_state.proofs.SettleLemmas.{unit_none}
use Rattle.run_state.proofs.settle.due_or_later.Goals as goal

pub returns-in-None : goal.returns-in-None
returns-in-None c =
    c.last_settled.ensures
    ∙ sym (unit_none c.args.settings.now c.args.state.now.board (λ unit. turns.UnitDue unit) _ _
    (λ k. refl) c.requires.going c.requires.whole
    (c.requires.first.1 (search rules)))
