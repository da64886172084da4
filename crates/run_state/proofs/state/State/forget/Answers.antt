use Rattle.std.proofs.Common.{◌≡◌, ap, sym, subst, ◌∙◌}
use Rattle.run_state.specs.Held.{KeepsSeats, kept_of}
use Rattle.run_state.specs.Placed.{FitsUnits}
use Rattle.run_state.proofs.ForgottenLemmas.{fits_forgotten, limits_forgotten}
use Rattle.run_state.proofs.state.State.forget.Goals as goal

pub invariant_of-self : goal.invariant_of-self
invariant_of-self c =
    let asks = c.self.inside.dispatcher.rounds.asks in
    let us = c.self.inside.units in
    let a = c.self.inside.kept.limits in
    subst (λ vs. FitsUnits asks vs c.self.inside.holders a) (sym c.forget_one.ensures)
    (fits_forgotten asks us c.self.inside.holders a c.args.unit c.self.invariant)

pub returns-clause-seated : goal.returns-clause-seated
returns-clause-seated c seated =
    let p = c.args.settings.now in
    let us = c.self.inside.units in
    let before : c.self.inside.kept ≡ kept_of p us = subst (KeepsSeats p) (sym c.self.view_is) seated in
    before ∙ ap (λ limits. record (kept_of p us) { limits = limits }) (limits_forgotten p us c.args.unit)
    ∙ sym (ap (kept_of p) c.forget_one.ensures)
