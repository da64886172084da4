-- Numbers that aren't 0.
use Rattle.std.proofs.Common.{◌≡◌, ℕ, ◌<◌, subst, ap}
use Rattle.std.proofs.Math.Bridge.{le_prop}
use Rattle.std.specs.declared.num.NonZeroU32.{NonZeroU32}

abbrev count_of : (v : ℕ) → 0 < v → NonZeroU32
count_of v p = record { value = v; ok = p }

pub count_same : (a b : NonZeroU32) → a.value ≡ b.value → a ≡ b
count_same a b e =
    subst (λ (v : ℕ). (p : 0 < v) → a ≡ count_of v p) e (λ p. ap
    (λ (q : 0 < a.value). count_of a.value q) (le_prop a.ok p))
    b.ok
