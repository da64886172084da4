-- Counts of failed calls of the outside.
use Rattle.std.specs.Prelude.{ℕ, ◌≡◌, ◌≤◌, ◌+◌, ◌-◌, ◌^◌, min, Bool, true, false, is_err}
use Rattle.std.specs.declared.result.Result.{Result}

-- a count has risen, or stands at the greatest u64, where a count that is kept in one stays
abbrev pub Rose : ℕ → ℕ → Type 0
Rose before now = min (before + 1) (2 ^ 64 - 1) ≤ now

-- a count rose exactly where a call failed: it never falls, and else it stays
abbrev pub RoseExactlyIf : Bool → ℕ → ℕ → Type 0
RoseExactlyIf true before now = (before ≤ now) × Rose before now
RoseExactlyIf false before now = now ≡ before

-- a call each of whose errors is a fault
abbrev pub CountsFault : {T E : Type 0} → ℕ → ℕ → Result T E → Type 0
CountsFault before now result = RoseExactlyIf (is_err result) before now
