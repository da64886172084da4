use Rattle.std.proofs.Common.{◌≡◌, ℕ, ◌<◌, length, get_or}
use Rattle.run_admission.specs.Ordered.{Rank, priority_at}
use Rattle.run_admission.proofs.order.ranked.Given as goal

abbrev pub invariant-loop-test : goal.invariant-loop-test
invariant-loop-test l = record {
  all : length l.ranked.items ≡ l.test;
  each : (k : ℕ) (d : Rank) → k < length l.ranked.items
      → ((get_or l.ranked.items k d).0.0 ≡ priority_at l.claims k) × ((get_or l.ranked.items k d).1 ≡ k);
}
