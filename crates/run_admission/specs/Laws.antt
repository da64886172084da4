-- What holds of a sub-run after any admissions and releases.
use Rattle.std.specs.Prelude.{ℕ, ◌≡◌, ◌<◌, ◌≤◌, Option, Some, length, slice_get, slice_index, option_and_then}
use Rattle.run_admission.specs.InUse.{Admissions, tests, slot_of, slot_in, weight_in_use, group_weight_in_use}

-- no limit is passed
pub record KeepsLimits (a : Admissions) : Type 0 where
  pub all : weight_in_use a ≤ a.threads
  pub groups : (g : ℕ) → g < length a.limits → group_weight_in_use a g ≤ slice_index a.limits g

-- the slots that the test at a place holds
abbrev pub slot_at : Admissions → ℕ → Option ℕ
slot_at a k = option_and_then slot_of (slice_get (tests a) k)

abbrev pub group_slot_at : Admissions → ℕ → ℕ → Option ℕ
group_slot_at a g k = option_and_then (slot_in g) (slice_get (tests a) k)

-- two tests in use hold different slots, and so do two tests of one group within it
pub record HasOwnSlots (a : Admissions) : Type 0 where
  pub all : (j k n : ℕ) → slot_at a j ≡ Some n → slot_at a k ≡ Some n → j ≡ k
  pub groups : (g j k n : ℕ) → g < length a.limits → group_slot_at a g j ≡ Some n → group_slot_at a g k ≡ Some n → j ≡ k
