-- The moment that has so many nanoseconds.
use Rattle.std.proofs.Common.{◌≡◌, ℤ, ◌≤ℤ◌, Bool, true, false, T, Some, ap}
use Rattle.jiff_core.specs.Timestamp.{IsTimestampNanos}
use Rattle.jiff_core.specs.declared.timestamp.Timestamp.{Timestamp}
use Rattle.run_input.specs.PlanHead.{first_moment, last_moment, not_after_last, not_before_first, moment_at}
use denote.Struct.Props.{props}
use lib.Signed.{le_z, le_z_yes}

-- the moment of so many nanoseconds, which are in range
named : (n : ℤ) → IsTimestampNanos n → Timestamp
named n within = record { nanosecond = n; in_range = within }

-- that they are in range has one proof
within_once : (n : ℤ) → IsProp (IsTimestampNanos n)
within_once n = hlevel props

-- moments of the same nanoseconds are the same
named_once : (n : ℤ) (p q : IsTimestampNanos n) → named n p ≡ named n q
named_once n p q = ap (λ (h : IsTimestampNanos n). named n h) (within_once n p q)

-- each test passes on the nanoseconds of a moment
not_after : (t : Timestamp) (above : first_moment ≤ℤ t.nanosecond) (b : Bool)
    (below : T b → t.nanosecond ≤ℤ last_moment) → T b → not_after_last t.nanosecond above b below ≡ Some t
unfolding named
not_after t above true below within =
    ap (λ (m : Timestamp). Some m) (named_once t.nanosecond (above, below tt) t.in_range)
not_after t above false below within = absurd within

not_before : (t : Timestamp) (b : Bool) (above : T b → first_moment ≤ℤ t.nanosecond) → T b
    → not_before_first t.nanosecond b above ≡ Some t
not_before t true above within =
    not_after t (above tt) (le_z t.nanosecond last_moment) (λ h. le_z_yes h) t.in_range.1.le
not_before t false above within = absurd within

-- a moment is the one of its nanoseconds
pub moment_at-nanosecond : (t : Timestamp) → moment_at t.nanosecond ≡ Some t
moment_at-nanosecond t =
    not_before t (le_z first_moment t.nanosecond) (λ h. le_z_yes h) t.in_range.0.le
