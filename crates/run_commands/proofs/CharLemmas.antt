-- The bytes of a character.
use Rattle.std.proofs.Common.{◌≡◌, Bool, true, false, cond, ℕ, ◌<◌, ◌≤◌, List, [], ◌∷◌, ◌++◌, map, refl, sym, ap, ◌∙◌}
use Rattle.std.proofs.Common.{arith, encode_utf8, append_assoc}
use Rattle.std.proofs.Math.Utf8.{encode}
use Rattle.std.proofs.lemmas.Str.{encode_ascii}
use Rattle.std.proofs.lemmas.Bool.Decides.{nat_tests}
use borrow.Author.Tests.{ltb-true}
use lib.Dec.{ltb}
use Rattle.run_commands.specs.RunnerVariable.{letter_in_variable}

-- bytes of no ASCII character
abbrev pub AreHigh : List ℕ → Type 0
AreHigh [] = Unit {0}
AreHigh (b ∷ bs) = (128 ≤ b) × AreHigh bs

-- of two lists the chosen one has high bytes
chosen : (test : Bool) (xs ys : List ℕ) → (test ≡ true → AreHigh xs) → AreHigh ys → AreHigh (cond test xs ys)
chosen true xs ys p q = p refl
chosen false xs ys p q = q

-- a character past ASCII has only such bytes
pub encode-high : (c : ℕ) → 128 ≤ c → AreHigh (encode c)
unfolding encode
encode-high c high =
    chosen (ltb c 128) _ _ (λ e. absurd (omega (arith, ltb-true c 128 e)))
    (chosen (ltb c 2048) _ _ (λ _. (omega arith, (omega arith, tt)))
    (chosen (ltb c 65536) _ _ (λ _. (omega arith, (omega arith, (omega arith, tt))))
    (omega arith, (omega arith, (omega arith, (omega arith, tt))))))

-- such a byte stays in the name of a variable
letter-high : (b : ℕ) → 128 ≤ b → letter_in_variable b ≡ b
letter-high b high = grind (arith, nat_tests)

-- and so do many
letters-high : (bytes rest : List ℕ) → AreHigh bytes → map letter_in_variable (bytes ++ rest)
    ≡ bytes ++ map letter_in_variable rest
letters-high [] rest high = refl
letters-high (b ∷ bytes) rest high = rw (letter-high b high.0, letters-high bytes rest high.1) refl

-- an ASCII letter becomes one
letter-low : (b : ℕ) → b < 128 → letter_in_variable b < 128
letter-low b low = grind (arith, nat_tests)

-- the letters of a character and of the text after it
letters-encode : (c : ℕ) (rest : List ℕ)
    → map letter_in_variable (encode_utf8 c ++ rest) ≡ encode_utf8 (letter_in_variable c) ++ map letter_in_variable rest
letters-encode c rest =
    elim (ltb c 128) as (λ test. ltb c 128 ≡ test → map letter_in_variable (encode_utf8 c ++ rest)
    ≡ encode_utf8 (letter_in_variable c) ++ map letter_in_variable rest) [
      | true ↦ λ e. let low = ltb-true c 128 e in
          rw (encode_ascii c low, encode_ascii (letter_in_variable c) (letter-low c low)) refl
      | false ↦ λ e. let high : 128 ≤ c = grind (arith, nat_tests) in
          rw (letter-high c high) (letters-high (encode c) rest (encode-high c high))
    ] refl

-- one character more in the name of a variable
pub letters_more : (name whole left rest : List ℕ) (c : ℕ) → name ++ map letter_in_variable left ≡ whole
    → left ≡ encode_utf8 c ++ rest
    → (name ++ encode_utf8 (letter_in_variable c)) ++ map letter_in_variable rest ≡ whole
letters_more name whole left rest c so_far next =
    append_assoc name (encode_utf8 (letter_in_variable c)) (map letter_in_variable rest)
    ∙ ap (λ letters. name ++ letters) (sym (letters-encode c rest))
    ∙ ap (λ letters. name ++ map letter_in_variable letters) (sym next) ∙ so_far
