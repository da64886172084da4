use Rattle.std.proofs.Common.{◌≡◌, ◌<◌, ℕ, false, take, is_some}
use Rattle.std.specs.List.{list_any}
use Rattle.std.specs.HashSet.{contains}
use Rattle.run_engine.specs.Builder.{test_refusal}
use Rattle.run_model.specs.Reruns.{is_one_test}
use Rattle.run_engine.proofs.builder.tests_refusal.Given as goal

abbrev pub invariant-loop-place : goal.invariant-loop-place
invariant-loop-place l = record {
  known : (q : _) → contains (λ x y. is_one_test x.now y.now) l.ids q
      ≡ list_any (λ t. is_one_test t.id q.now) (take l.place l.tests);
  first : (k : ℕ) → k < l.place → is_some (test_refusal l.groups l.retries l.tests k) ≡ false;
}
