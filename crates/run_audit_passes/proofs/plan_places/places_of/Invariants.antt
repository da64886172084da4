use Rattle.std.proofs.Common.{◌≡◌, map, take}
use Rattle.std.specs.BTreeMap.{get}
use Rattle.run_events.specs.declared.plan.TestInstanceId.{TestInstanceId}
use Rattle.run_model.specs.Reruns.{id_order, is_one_test}
use Rattle.run_audit_machines.specs.Accounts.{IsOwnPlace}
use Rattle.run_audit_passes.proofs.plan_places.places_of.Given as goal

abbrev pub invariant-loop-place : goal.invariant-loop-place
invariant-loop-place l = record {
  ids : l.ids.items ≡ map (λ test. test.id) (take l.place l.tests);
  right : (q : TestInstanceId) → IsOwnPlace (is_one_test q) l.ids.items (get id_order l.places q);
}
