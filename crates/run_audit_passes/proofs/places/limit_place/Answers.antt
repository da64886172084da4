use Rattle.std.proofs.Common.{◌≡◌, ◌∙◌, Some, is_some, map, sym, ap, ap₂, subst}
use Rattle.std.proofs.lemmas.Result.{IfOk-weaker}
use Rattle.run_model.specs.Reruns.{is_one_test}
use Rattle.run_audit_model.specs.Kept.{KeepsLaw}
use Rattle.run_audit_model.specs.Parts.{is_stress}
use Rattle.run_audit_machines.specs.Accounts.{AreApart}
use Rattle.run_audit_machines.specs.Limits.{limit_machine, no_seats}
use Rattle.run_audit_machines.specs.Machines.{endless, first_state}
use Rattle.run_audit_machines.proofs.LawLemmas.{limits_are_machine}
use Rattle.run_audit_machines.proofs.MachineLemmas.{place_of_stop}
use Rattle.run_audit_passes.proofs.PlanPlaceLemmas.{apart_of}
use Rattle.run_audit_passes.proofs.places.limit_place.Goals as goal

pub unreachable-requires : goal.unreachable-requires
unreachable-requires c =
    c.in_ok-found.ensures.none (ap is_some c.in_default.is)
    (subst (λ tests. AreApart is_one_test (map (λ test. test.id) tests)) (sym c.as_slice.ensures)
    (apart_of (map (λ test. test.id) c.args.settings.now.plan.tests) c.requires))

pub returns : goal.returns
returns c =
    let p = c.args.settings.now in
    let law = c.new-law.result in
    let first : first_state endless (is_stress p) (no_seats p) ≡ Some law =
    sym (c.new-law.ensures ∙ ap₂ (first_state endless) c.is_some.ensures c.in_ok-part.ensures) in
    IfOk-weaker c.first_stop.result _ _ (λ o stop past.
    place_of_stop limit_machine law (KeepsLaw p past 3) (limits_are_machine p past law first).accepts
    c.args.events.now o stop) c.first_stop.ensures.ok
