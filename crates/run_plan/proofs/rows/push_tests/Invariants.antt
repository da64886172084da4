use Rattle.std.proofs.Common.{◌≡◌, ◌++◌, map, take}
use Rattle.run_plan.specs.Rows.{listed_row}
use Rattle.run_plan.proofs.rows.push_tests.Given as goal

abbrev pub invariant-loop-test : goal.invariant-loop-test
invariant-loop-test l =
    map listed_row l.rows.items
    ≡ map listed_row l.initial.rows.items ++ map (λ test. (l.place, l.binary, test)) (take l.test-index l.tests)
