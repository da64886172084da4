use Rattle.std.proofs.Common.{◌≡◌, ◌<◌, ℕ, map, slice_index_or, take}
use Rattle.serde_json.specs.View.{view}
use Rattle.run_events.specs.declared.plan.PlanTest.{PlanTest}
use Rattle.run_plan_line.specs.PlanFields.{plan_test_object}
use Rattle.run_plan_line.specs.SaidPlan.{IsReadTest}
use Rattle.run_plan_line.proofs.units.tests_value.Given as goal

abbrev pub invariant-loop-test : goal.invariant-loop-test
invariant-loop-test l = record {
  is : map view l.values.items ≡ map plan_test_object (take l.test-index l.tests);
  read : (k : ℕ) (d : PlanTest) → k < l.test-index → IsReadTest (slice_index_or l.tests k d);
}
