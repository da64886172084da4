-- Moments that have as many nanoseconds are the same.
use Rattle.std.proofs.Common.{◌≡◌, subst, ap, ◌∙◌}
use Rattle.std.specs.Prelude.{ℤ}
use Rattle.std.proofs.Math.Dec.{T, T_prop}
use Rattle.std.specs.Int.Signed.{◌≤ℤ◌, le_z}
use Rattle.jiff_core.specs.Timestamp.{IsTimestampNanos}
use Rattle.jiff_core.specs.declared.timestamp.Timestamp.{Timestamp}

le_same : (a b : ℤ) (p q : a ≤ℤ b) → p ≡ q
le_same a b p q = ap {B = a ≤ℤ b} (λ (h : T (le_z a b)). record { le = h }) (T_prop (le_z a b) p.le q.le)

range_prop : (n : ℤ) (p q : IsTimestampNanos n) → p ≡ q
range_prop n p q =
    ap {B = IsTimestampNanos n} (λ x. (x, p.1)) (le_same _ _ p.0 q.0)
    ∙ ap {B = IsTimestampNanos n} (λ y. (q.0, y)) (le_same _ _ p.1 q.1)

abbrev moment : (n : ℤ) → IsTimestampNanos n → Timestamp
moment n p = record { nanosecond = n; in_range = p }

pub moment_same : (a b : Timestamp) → a.nanosecond ≡ b.nanosecond → a ≡ b
moment_same a b e =
    subst (λ (n : ℤ). (p : IsTimestampNanos n) → a ≡ moment n p) e
    (λ p. ap (λ (q : IsTimestampNanos a.nanosecond). moment a.nanosecond q) (range_prop a.nanosecond a.in_range p))
    b.in_range
