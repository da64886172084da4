-- The arithmetic of delays that double.
use Rattle.std.proofs.Common.{ℕ, ◌≡◌, ◌≢◌, ◌-◌, ◌*◌, ◌^◌, min, zero, suc, arith, ap, ◌∙◌}
use Rattle.std.proofs.Math.Nat.{pow-suc}

one_less : (n : ℕ) → suc n - 1 ≡ n
one_less n = omega arith

-- a delay that is doubled so often is the one that is doubled once less, doubled once more, up to a limit
pub doubled_more : (delay times most : ℕ) → times ≢ 0
    → min (min (delay * 2 ^ (times - 1)) most * 2) most ≡ min (delay * 2 ^ times) most
doubled_more delay zero most some = absurd (omega arith)
doubled_more delay (suc n) most some =
    let less : min (min (delay * 2 ^ (suc n - 1)) most * 2) most ≡ min (min (delay * 2 ^ n) most * 2) most
    = ap (λ k. min (min (delay * 2 ^ k) most * 2) most) (one_less n) in
    let twice : delay * (2 ^ n * 2) ≡ delay * 2 ^ n * 2 = grind arith in
    let more : delay * 2 ^ suc n ≡ delay * 2 ^ n * 2 = ap (λ k. delay * k) (pow-suc 2 n) ∙ twice in
    let doubled : min (min (delay * 2 ^ n) most * 2) most ≡ min (delay * 2 ^ suc n) most = omega (arith, more) in
    less ∙ doubled
