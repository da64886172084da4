use Rattle.std.proofs.Common.{◌∙◌, sym, subst}
use Rattle.run_model.specs.Reruns.{is_one_test}
use Rattle.run_audit_machines.specs.Accounts.{IsOwnPlace}
use Rattle.run_audit_passes.proofs.plan_places.PlanPlacesTestPlaces.place.Goals as goal

pub returns : goal.returns
returns c =
    let found = c.copied.ensures ∙ c.get.ensures.value in
    subst (λ ids. IsOwnPlace (is_one_test c.args.id.now) ids c.copied.result) c.self.view_is
    (subst (IsOwnPlace (is_one_test c.args.id.now) c.self.inside.ids.items) (sym found)
    (c.self.invariant c.args.id.now))
