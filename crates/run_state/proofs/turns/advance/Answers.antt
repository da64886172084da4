use Rattle.std.proofs.Common.{sym, ◌∙◌}
use Rattle.run_state.proofs.DeedLemmas.{unit_stepped}
use Rattle.run_state.proofs.turns.advance.Goals as goal

pub returns-in_ok-asked-in-Some-clause-after : goal.returns-in_ok-asked-in-Some-clause-after
returns-in_ok-asked-in-Some-clause-after c =
    c.in_ok-asked-in-Some.ensures.after
    ∙ unit_stepped c.args.settings.now c.args.state.now.board c.args.turn.now (c.in-Some.unit, c.in-Some.own)
    (sym c.requires.named ∙ c.in-Some.is)
