use Rattle.std.proofs.Common.{◌≡◌, ◌≤◌, take, count_by}
use Rattle.run_model.specs.Admission.{is_matched}
use Rattle.run_laws_plain.proofs.statistics.matched_in.Given as goal

abbrev pub invariant-loop-test : goal.invariant-loop-test
invariant-loop-test l =
    (l.count ≡ count_by is_matched (take l.test-index l.settings.plan.tests)) × (l.count ≤ l.test-index)
