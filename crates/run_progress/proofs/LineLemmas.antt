-- The lines of the first tests, one after another.
use Rattle.std.proofs.Common.{◌≡◌, ℕ, ◌+◌, ◌-◌, ◌<◌, suc, List, ◌∷◌, ◌++◌, length, map, take, refl, sym, ap, ◌∙◌, arith}
use Rattle.std.proofs.Common.{append_assoc}
use Rattle.run_progress.specs.Lines.{below}
use Rattle.run_progress.specs.declared.running_test.RunningTest.{RunningTest}

-- the first of those that remain, and one fewer of the others
take_one : (tests : List RunningTest) (running : RunningTest) (most shown : ℕ) → shown < most
    → take (most - shown) (running ∷ tests) ≡ running ∷ take (most - (shown + 1)) tests
take_one tests running most shown less =
    let one : most - shown ≡ suc (most - (shown + 1)) = omega arith in
    rw one refl

module _ (tests rest : List RunningTest) (running : RunningTest) (most shown : ℕ) (is : tests ≡ running ∷ rest)
    (less : shown < most) where
  taken : take (most - shown) tests ≡ running ∷ take (most - (shown + 1)) rest
  taken = ap (take (most - shown)) is ∙ take_one rest running most shown less

  -- one more line stands before those that remain
  pub text_more : (line : RunningTest → List ℕ) (old new all : List ℕ)
      → old ++ below (map line (take (most - shown) tests)) ≡ all → new ≡ old ++ 10 ∷ line running
      → new ++ below (map line (take (most - (shown + 1)) rest)) ≡ all
  text_more line old new all told more =
      ap (λ (l : List ℕ). l ++ below (map line (take (most - (shown + 1)) rest))) more
      ∙ append_assoc old (10 ∷ line running) (below (map line (take (most - (shown + 1)) rest)))
      ∙ ap (λ (l : List RunningTest). old ++ below (map line l)) (sym taken) ∙ told

  -- one more of as many
  pub lines_more : (all : ℕ) → shown + length (take (most - shown) tests) ≡ all
      → shown + 1 + length (take (most - (shown + 1)) rest) ≡ all
  lines_more all told =
      let one : length (take (most - shown) tests) ≡ suc (length (take (most - (shown + 1)) rest)) = ap length taken in
      omega (arith, one, told)
