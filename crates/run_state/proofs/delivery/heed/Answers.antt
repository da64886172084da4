use Rattle.std.proofs.Common.{refl, ap, sym, subst, ◌∙◌}
use Rattle.run_state.specs.Counted.{holders_in}
use Rattle.run_state.specs.Held.{KeepsSeats, kept_of}
use Rattle.run_state.proofs.DeedLemmas.{kept-reached}
use Rattle.run_state.proofs.PlaceLemmas.{tests-kept}
use Rattle.run_state.proofs.delivery.heed.Goals as goal

pub returns-clause-seated : goal.returns-clause-seated
returns-clause-seated c =
    let p = c.args.settings.now in
    subst (KeepsSeats p) (sym c.state.view_is) c.in_ok-asked.ensures.seated
    ∙ sym (kept-reached p c.args.request c.state.inside.units)
    ∙ sym (ap (kept_of p) c.in_ok-broadcast.ensures.after)

pub invariant_of-state : goal.invariant_of-state
invariant_of-state c =
    let a = c.state.inside.kept.limits in (
      tests-kept c.state.inside.units c.broadcast.new.units a a c.state.invariant.0 c.broadcast.ensures.scripts refl,
      c.broadcast.ensures.counted
          ∙ ap (λ asks. holders_in asks c.broadcast.new.units) c.round_request-asks.ensures,
      c.state.invariant.2,
    )

pub invariant_of-state-2 : goal.invariant_of-state-2
invariant_of-state-2 c =
    let a = c.state.inside.kept.limits in (
      tests-kept c.state.inside.units c.broadcast.new.units a a c.state.invariant.0 c.broadcast.ensures.scripts refl,
      c.broadcast.ensures.counted
          ∙ ap (λ asks. holders_in asks c.broadcast.new.units) c.round_request-asks.ensures,
      c.state.invariant.2,
    )
