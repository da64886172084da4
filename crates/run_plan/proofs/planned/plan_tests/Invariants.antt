use Rattle.std.proofs.Common.{◌≡◌, map, take}
use Rattle.std.specs.List.{zip}
use Rattle.run_plan.specs.Planned.{scripted_test}
use Rattle.run_plan.specs.Rows.{asked_row}
use Rattle.run_plan.proofs.planned.plan_tests.Given as goal

abbrev pub invariant-loop-place : goal.invariant-loop-place
invariant-loop-place l =
    l.tests
    ≡ map (scripted_test l.counts.0 l.counts.1 l.profile l.picks (map (λ s. s.now) l.scripts))
    (take l.place (zip (map asked_row l.rows) l.kept.items))
