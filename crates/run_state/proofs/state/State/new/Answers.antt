use Rattle.std.proofs.Common.{ap, ◌∙◌}
use Rattle.run_state.specs.declared.kept.Kept.{Kept}
use Rattle.run_state.proofs.StartLemmas.{fits-anew, state-nil}
use Rattle.run_state.proofs.state.State.new.Goals as goal

pub at_rest-requires : goal.at_rest-requires
at_rest-requires c =
    fits-anew c.args.settings.now c.in_ok-dispatcher.dispatcher.rounds.asks c.in_ok-units.units
    c.in_ok-units.kept.limits c.in_ok-units.ensures.none c.in_ok-units.ensures.limits

pub returns : goal.returns
returns c =
    state-nil c.args.settings.now c.in_ok-units.units c.in_ok-dispatcher.dispatcher c.at_rest.result
    c.at_rest.ensures.board c.in_ok-units.ensures.whole c.in_ok-units.ensures.none c.in_ok-dispatcher.ensures
    (ap (λ (k : Kept). k.limits) c.at_rest.ensures.kept ∙ c.in_ok-units.ensures.limits)
    (ap (λ (k : Kept). k.alike) c.at_rest.ensures.kept ∙ c.in_ok-units.ensures.alike)
