-- Numbers and dashes as they are shown.
use Rattle.std.proofs.Common.{◌≡◌, ℕ, zero, suc, ◌-◌, ◌+◌, ◌^◌, false, [], ◌++◌, ap, refl, ◌∙◌, decimal, length}
use Rattle.std.proofs.Common.{replicate}
use Rattle.std.proofs.Common.{arith, append-nil, append_assoc, List}
use Rattle.std.specs.Fmt.{padded_integral, format_spec, char_count}
use Rattle.run_report.specs.Texts.{three_digits, dash, dashes}

-- what `{:03}` writes
pub padded_three : (n : ℕ)
    → padded_integral (format_spec 32 0 4 3 (2 ^ 64 - 1)) false [] (decimal n) ≡ three_digits n
unfolding padded_integral char_count
padded_three n =
    let zeros : 3 - length (decimal n) - 0 - 0 ≡ 3 - length (decimal n) = omega arith in
    rw append-nil (ap (λ (k : ℕ). replicate k 48 ++ decimal n) zeros)

-- one dash more
dashes-suc : (n : ℕ) → dashes n ++ dash ≡ dashes (suc n)
dashes-suc zero = refl
dashes-suc (suc n) = append_assoc dash (dashes n) dash ∙ ap (λ ds. dash ++ ds) (dashes-suc n)

pub dashes_more : (front : List ℕ) (n : ℕ) → (front ++ dashes n) ++ dash ≡ front ++ dashes (n + 1)
dashes_more front n =
    let next : n + 1 ≡ suc n = omega arith in
    rw next (append_assoc front (dashes n) dash ∙ ap (λ ds. front ++ ds) (dashes-suc n))
