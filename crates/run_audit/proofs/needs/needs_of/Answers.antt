use Rattle.std.proofs.Common.{◌≡◌, ◌∙◌, map, is_some, IfSome, sym, ap, subst, rules}
use Rattle.run_events.specs.declared.plan.PlanTest.{PlanTest}
use Rattle.run_model.specs.Reruns.{is_one_test}
use Rattle.run_audit_machines.specs.Accounts.{AreApart}
use Rattle.run_audit.proofs.NeedLemmas.{apart_once, needs_are}
use Rattle.run_audit.proofs.needs.needs_of.Goals as goal

pub unreachable-requires : goal.unreachable-requires
unreachable-requires c =
    c.in_ok-places.ensures.none (ap is_some c.in-None.is)
    (subst (λ tests. AreApart is_one_test (map (λ (test : PlanTest). test.id) tests)) (sym c.as_slice-tests.ensures)
    (apart_once _ c.requires))

pub returns : goal.returns
returns c =
    needs_are c.args.settings.now _ (search rules)
    (subst (λ o. IfSome o (λ places. places ≡ map (λ (test : PlanTest). test.id) c.as_slice-tests.result.now))
    c.in-Some.is c.in_ok-places.ensures.some
    ∙ ap (map (λ (test : PlanTest). test.id)) c.as_slice-tests.ensures)
    (search rules) c.requires
