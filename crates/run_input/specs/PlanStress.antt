-- What a plan line says of how often, or how long, a run is repeated.
use Rattle.std.specs.Prelude.{ℕ, zero, suc, ◌^◌, List, [], ◌∷◌, length, Bool, ◌&&◌, Option, Some, None}
use Rattle.std.specs.Prelude.{option_and_then, if◌then◌else◌, nat_eq, nat_lt, codes}
use Rattle.std.specs.Char.{digit_value}
use Rattle.std.specs.List.{list_all}
use Rattle.std.specs.Str.Parse.{digits_value, without_leading_plus}
use Rattle.serde_json.specs.Data.{Data}
use Rattle.serde_json.specs.Find.{get, as_str}
use Rattle.run_commands.specs.declared.stress_count.StressCondition.{StressCondition}
use Rattle.run_commands.specs.declared.stress_count.StressCondition.TheVariants as conditions
use Rattle.run_commands.specs.declared.stress_count.StressCount.{StressCount}
use Rattle.run_commands.specs.declared.stress_count.StressCount.TheVariants as counts
use Rattle.run_input.specs.Fields.{◌>>=◌, when, is_object_of, optional, u64_of}
use lib.Pointwise.{pointwise}
use native.Mathlib.Nat.{zero-lt-suc}

-- whether a text is decimal digits, one or more
abbrev pub are_decimals : List ℕ → Bool
are_decimals text = nat_lt 0 (length text) && list_all (λ c. nat_lt (digit_value c) 10) text

-- so many sub-runs, from 1 to the greatest u32
abbrev pub repeats_as : ℕ → Option StressCount
repeats_as zero = None
repeats_as (suc n) =
    if nat_lt (suc n) (2 ^ 32)
    then Some (counts.Count (record { value = suc n; ok = zero-lt-suc n }))
    else None

-- as many as decimal digits say
abbrev pub repeats_of : List ℕ → Option StressCount
repeats_of digits = if are_decimals digits then repeats_as (digits_value 10 digits) else None

-- the word `infinite`, or decimal digits with an optional `+` before them
abbrev pub repeats_named : List ℕ → Option StressCount
repeats_named text =
    if pointwise nat_eq text (codes "infinite")
    then Some counts.Infinite
    else repeats_of (without_leading_plus text)

abbrev pub repeats_from : Data → Option StressCount
repeats_from d = option_and_then repeats_named (as_str d)

-- a run is repeated so often, or for so long: one of them is said
abbrev pub stress_with : Option StressCount → Option ℕ → Option StressCondition
stress_with (Some count) None = Some (conditions.Count count)
stress_with None (Some ns) = Some (conditions.Duration ns)
stress_with (Some count) (Some ns) = None
stress_with None None = None

unfoldable pub stress_of : Data → Option StressCondition
stress_of d = do
  _ ← when (is_object_of (codes "count" ∷ codes "duration" ∷ []) d)
  count ← optional repeats_from (get (codes "count") d)
  duration ← optional u64_of (get (codes "duration") d)
  stress_with count duration
