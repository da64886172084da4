-- The groups of a plan by their names.
use Rattle.std.specs.Prelude.{ℕ, ◌≡◌, List}
use Rattle.std.specs.BTreeMap.{BTreeMap, get}
use Rattle.std.specs.Ordering.{nat_cmp}
use Rattle.std.specs.Cmp.Lexicographic.{slice_cmp}
use Rattle.run_events.specs.declared.plan.Group.{Group}
use Rattle.run_admission.specs.InUse.{group_of}

-- a map gives of each name the place of the first group that has it
pub record HasPlaces (groups : List Group) (places : BTreeMap (List ℕ) ℕ) : Type 0 where
  pub each : (name : List ℕ) → get (slice_cmp nat_cmp) places name ≡ group_of groups name
