use Rattle.std.proofs.Common.{ap, sym, ◌∙◌}
use Rattle.run_model.specs.declared.dispatcher_view.DispatcherView.{DispatcherView}
use Rattle.run_state.specs.Counted.{holders_in}
use Rattle.run_state.proofs.HoldersLemmas.{none_held}
use Rattle.run_state.proofs.rounds.stop_itself.Goals as goal

pub invariant_of-state : goal.invariant_of-state
invariant_of-state c =
    let us = c.state.inside.units in (
      c.state.invariant.0,
      none_held us ∙ sym (ap (λ (d : DispatcherView). holders_in d.rounds.asks us)
          c.stop_wait_due-effects.ensures.after),
      c.state.invariant.2,
    )
