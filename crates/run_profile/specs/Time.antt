-- What a text says as a time: numbers with units, added.
use Rattle.std.specs.Prelude.{ℕ, zero, suc, ◌+◌, ◌-◌, ◌*◌, ◌^◌, ◌==◌, Bool, List, [], ◌∷◌, length}
use Rattle.std.specs.Prelude.{Option, Some, None, Result, Ok, Err, if◌then◌else◌, nat_eq, nat_le, nat_lt, codes}
use Rattle.std.specs.Prelude.{slice_range}
use Rattle.std.specs.List.{list_any}
use Rattle.run_profile.specs.declared.scan.ByteKind.TheVariants.{Space, Digit, Letter}
use Rattle.run_profile.specs.declared.time.TimeFault.{TimeFault}
use Rattle.run_profile.specs.declared.time.TimeFault.TheVariants.{NoNumber, NoUnit, TooLong}
use Rattle.run_profile.specs.Reads.{◌>>=◌, or_else, or_refuse}
use Rattle.run_profile.specs.Scan.{after_bytes}
use lib.Pointwise.{pointwise}

-- whether a word is one of the names
abbrev pub one_of : List ℕ → List (List ℕ) → Bool
one_of word names = list_any (pointwise nat_eq word) names

-- the nanoseconds of a unit of no more than a minute
abbrev pub short_unit_named : List ℕ → Option ℕ
short_unit_named word =
    if one_of word (codes "ns" ∷ codes "nsec" ∷ []) then Some 1
    else if one_of word (codes "us" ∷ codes "usec" ∷ (194 ∷ 181 ∷ 115 ∷ []) ∷ []) then Some 1000
    else if one_of word (codes "ms" ∷ codes "msec" ∷ []) then Some 1000000
    else if one_of word (codes "s" ∷ codes "sec" ∷ codes "secs" ∷ codes "second" ∷ codes "seconds" ∷ [])
    then Some 1000000000
    else if one_of word (codes "m" ∷ codes "min" ∷ codes "mins" ∷ codes "minute" ∷ codes "minutes" ∷ [])
    then Some 60000000000
    else None

-- the nanoseconds of a unit of an hour or more: a month is the twelfth of a year, and a year has 365.25 days
abbrev pub long_unit_named : List ℕ → Option ℕ
long_unit_named word =
    if one_of word (codes "h" ∷ codes "hr" ∷ codes "hrs" ∷ codes "hour" ∷ codes "hours" ∷ [])
    then Some (3600 * 1000000000)
    else if one_of word (codes "d" ∷ codes "day" ∷ codes "days" ∷ []) then Some (86400 * 1000000000)
    else if one_of word (codes "w" ∷ codes "wk" ∷ codes "wks" ∷ codes "week" ∷ codes "weeks" ∷ [])
    then Some (604800 * 1000000000)
    else if one_of word (codes "M" ∷ codes "month" ∷ codes "months" ∷ []) then Some (2630016 * 1000000000)
    else if one_of word (codes "y" ∷ codes "yr" ∷ codes "yrs" ∷ codes "year" ∷ codes "years" ∷ [])
    then Some (31557600 * 1000000000)
    else None

-- the nanoseconds of the unit that a word names
abbrev pub unit_named : List ℕ → Option ℕ
unit_named word = or_else (short_unit_named word) (long_unit_named word)

-- the number, where 64 bits hold it
abbrev pub within_u64 : ℕ → Option ℕ
within_u64 n = if nat_lt n (2 ^ 64) then Some n else None

-- the number that decimal digits write after those of n
abbrev pub number_after : ℕ → List ℕ → ℕ
number_after n [] = n
number_after n (digit ∷ digits) = number_after (10 * n + (digit - 48)) digits

-- Within a text a part begins at a place: a number, then a unit, each with any spaces after it.
-- The unit's place, and that after it; and the place of the next part.
abbrev pub unit_start : List ℕ → ℕ → ℕ
unit_start text at = after_bytes Space text (after_bytes Digit text at)

abbrev pub unit_end : List ℕ → ℕ → ℕ
unit_end text at = after_bytes Letter text (unit_start text at)

abbrev pub next_part : List ℕ → ℕ → ℕ
next_part text at = after_bytes Space text (unit_end text at)

-- the number of a part
abbrev pub number_at : List ℕ → ℕ → Result ℕ TimeFault
number_at text at =
    if after_bytes Digit text at == at then Err (NoNumber at)
    else or_refuse (within_u64 (number_after 0 (slice_range text at (after_bytes Digit text at)))) (TooLong at)

-- the nanoseconds of the unit of a part
abbrev pub unit_at : List ℕ → ℕ → Result ℕ TimeFault
unit_at text at =
    or_refuse (unit_named (slice_range text (unit_start text at) (unit_end text at))) (NoUnit (unit_start text at))

-- a sum, and a part more
abbrev pub with_part : List ℕ → ℕ → ℕ → Result ℕ TimeFault
with_part text at sum = do
  number ← number_at text at
  unit ← unit_at text at
  or_refuse (within_u64 (sum + number * unit)) (TooLong at)

-- a sum, and the parts from a place on, which are no more than so many
abbrev pub with_parts : ℕ → List ℕ → ℕ → ℕ → Result ℕ TimeFault
with_parts zero text at sum = Ok sum
with_parts (suc most) text at sum =
    if nat_le (length text) at then Ok sum
    else do
      more ← with_part text at sum
      with_parts most text (next_part text at) more

-- the time that a text says, in nanoseconds: the sum of its parts, of which there is one at least, or 0 for `0`
unfoldable pub time_said : List ℕ → Result ℕ TimeFault
time_said text =
    if pointwise nat_eq text (codes "0") then Ok 0
    else if after_bytes Space text 0 == length text then Err (NoNumber (length text))
    else with_parts (length text) text (after_bytes Space text 0) 0
