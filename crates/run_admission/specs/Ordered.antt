-- The tests in the order in which they come: by descending priority, and by place in the plan.
use Rattle.std.specs.Prelude.{ℕ, ℤ, ◌≡◌, ◌<◌, ◌⊎◌, List, length, map, true, false, int_lt}
use Rattle.std.specs.Prelude.{slice_index, slice_index_or}
use Rattle.std.specs.List.Sorted.{IsPermutation, IsSorted}
use Rattle.std.specs.declared.cmp.Ordering.{Ordering}
use Rattle.std.specs.Ordering.{int_cmp, nat_cmp, ordering_then}
use Rattle.std.specs.declared.cmp.Reverse.{Reverse}
use Rattle.run_admission.specs.declared.seat.Claim.{Claim}
use Rattle.run_admission.specs.Kept.{nobody}

-- the priority of the test at a place
abbrev pub priority_at : List Claim → ℕ → ℤ
priority_at claims k = (slice_index_or claims k nobody.0).priority

-- one test comes before another: its priority is greater, or as great, and it is earlier in the plan
pub record IsBefore (claims : List Claim) (j k : ℕ) : Type 0 where
  pub no_less : int_lt (priority_at claims j) (priority_at claims k) ≡ false
  pub greater : (int_lt (priority_at claims k) (priority_at claims j) ≡ true) ⊎ (j < k)

-- a list of the tests, each one once, in which each comes before those after it
pub record IsOrder (claims : List Claim) (order : List ℕ) : Type 0 where
  pub all : length order ≡ length claims
  pub known : (r : ℕ) → r < length order → slice_index order r < length claims
  pub placed : (k : ℕ) → k < length claims → (r : ℕ) × (r < length order) × (slice_index order r ≡ k)
  pub sorted : (r s : ℕ) → r < s → s < length order
      → IsBefore claims (slice_index order r) (slice_index order s)

-- what stands at these places of a list, in their order
abbrev pub at_places : {X : Type 0} → X → List X → List ℕ → List X
at_places none xs places = map (λ k. slice_index_or xs k none) places

-- a test behind its priority, and the order of these: by descending priority, then by place in the plan
abbrev pub Rank : Type 0
Rank = Reverse ℤ × ℕ

abbrev pub rank_cmp : Rank → Rank → Ordering
rank_cmp x y = ordering_then (int_cmp y.0.0 x.0.0) (nat_cmp x.1 y.1)

-- the tests in plan order, each behind its priority
pub record AreRanked (claims : List Claim) (ranks : List Rank) : Type 0 where
  pub all : length ranks ≡ length claims
  pub each : (k : ℕ) (d : Rank) → k < length ranks
      → ((slice_index_or ranks k d).0.0 ≡ priority_at claims k) × ((slice_index_or ranks k d).1 ≡ k)

-- the same, sorted
pub record IsRanking (claims : List Claim) (ranks : List Rank) : Type 0 where
  pub plan : List Rank
  pub ranked : AreRanked claims plan
  pub moved : IsPermutation plan ranks
  pub sorted : IsSorted rank_cmp ranks
