use Rattle.std.proofs.Common.{ap, ◌∙◌}
use Rattle.run_model.specs.Turns.{is_held}
use Rattle.run_state.specs.Held.{Held}
use Rattle.run_state.proofs.HoldersLemmas.{held_counted}
use Rattle.run_state.proofs.state.State.is_held.Goals as goal

pub returns : goal.returns
returns c =
    held_counted c.self.inside.dispatcher.rounds.asks c.self.inside.units c.self.inside.holders c.self.invariant.1
    ∙ ap (λ (h : Held). is_held h.board.dispatcher.rounds.asks h.board.units) c.self.view_is
