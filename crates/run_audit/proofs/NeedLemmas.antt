-- Ids that stand once each are apart, both ways round.
use Rattle.std.proofs.Common.{◌≡◌, ◌∙◌, List, [], ◌∷◌, map, length, Bool, true, false, refl, sym, ap, subst}
use Rattle.std.specs.List.{All, AllByRecursion, IsDistinct}
use Rattle.std.proofs.lemmas.List.{length-map}
use Rattle.std.proofs.lemmas.List.Elements.{All-nil, All-cons}
use Rattle.run_events.specs.declared.plan.TestInstanceId.{TestInstanceId}
use Rattle.run_events.specs.declared.plan.PlanTest.{PlanTest}
use Rattle.run_events.specs.declared.settings.Settings.{Settings}
use Rattle.run_model.specs.Once.{HasEachIdOnce}
use Rattle.run_model.specs.Reruns.{is_one_test}
use Rattle.run_audit_model.specs.Parts.{is_stress}
use Rattle.run_audit_machines.specs.Accounts.{AreApart}
use Rattle.run_laws_audit.proofs.IdLemmas.{id_is, id_itself}
use Rattle.run_audit.specs.Needs.{AreNeedsOf}
use Rattle.run_audit.specs.declared.needs.Needs.{Needs}

-- what is no other is so the other way round
other_way : (a b : TestInstanceId) → is_one_test a b ≡ false → is_one_test b a ≡ false
other_way a b apart = by_test (is_one_test b a) refl
  where
    by_test : (t : Bool) → is_one_test b a ≡ t → t ≡ false
    by_test false is = refl
    by_test true is =
        let never : true ≡ false = sym (id_itself a) ∙ subst (λ b. is_one_test a b ≡ false) (id_is b a is) apart in cc

apart_each : (id : TestInstanceId) (ids : List TestInstanceId)
    → AllByRecursion (λ other. is_one_test id other ≡ false) ids
    → All (λ other. (is_one_test id other ≡ false) × (is_one_test other id ≡ false)) ids
apart_each id [] all = All-nil (λ other. (is_one_test id other ≡ false) × (is_one_test other id ≡ false))
apart_each id (other ∷ ids) all =
    All-cons (λ other. (is_one_test id other ≡ false) × (is_one_test other id ≡ false)) other ids
    (all.0, other_way id other all.0) (apart_each id ids all.1)

pub apart_once : (ids : List TestInstanceId) → IsDistinct is_one_test ids → AreApart is_one_test ids
unfolding IsDistinct
apart_once [] once = tt
apart_once (id ∷ ids) once = (apart_each id ids once.0, apart_once ids once.1)

-- so what is made of settings is needed of them
pub needs_are : (p : Settings) (needs : Needs) → needs.stress ≡ is_stress p
    → needs.places ≡ map (λ (test : PlanTest). test.id) p.plan.tests → needs.tests ≡ length p.plan.tests
    → HasEachIdOnce p → AreNeedsOf p needs
needs_are p needs stress places tests once = record {
  stress = stress;
  places = places;
  once = once;
  has = record {
    apart = subst (AreApart is_one_test) (sym places) (apart_once (map (λ (test : PlanTest). test.id) p.plan.tests)
        once);
    many = ap length places ∙ length-map p.plan.tests (λ (test : PlanTest). test.id) ∙ sym tests;
  };
}
