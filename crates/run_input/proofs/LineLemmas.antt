-- Where the first line ends.
use Rattle.std.proofs.Common.{◌≡◌, ◌≢◌, ℕ, zero, suc, ◌<◌, ◌==◌, List, [], ◌∷◌, ◌-◌, ◌+◌, ◌∙◌, sym, add-one, length}
use Rattle.std.proofs.Common.{take, drop, get_or, false, refl, ap, arith, eq-eqb, eqb-true}
use Rattle.std.proofs.lemmas.Bool.Decides.{nat_tests}
use Rattle.memchr.specs.Find.{NoneBefore, Nowhere, Passes, is_byte}
use Rattle.run_capture.proofs.BytesLemmas.{take-drop_all}
use Rattle.run_input.specs.Lines.{lines_of, at_front}

-- the bytes before the place of the first LF are none
pub no_feed_before : (bytes : List ℕ) (n : ℕ) → NoneBefore (Passes (is_byte 10) bytes) 0 (length bytes) n
    → (k : ℕ) → k < n → get_or bytes k 0 ≢ 10
no_feed_before bytes n none k below is = none.before k (omega arith) below (eq-eqb (get_or bytes k 0) 10 is)

-- where there is no such place none is
pub no_feed_all : (bytes : List ℕ) → Nowhere (Passes (is_byte 10) bytes) 0 (length bytes)
    → (k : ℕ) → k < length bytes → get_or bytes k 0 ≢ 10
no_feed_all bytes none k below is = none k (omega arith) below (eq-eqb (get_or bytes k 0) 10 is)

-- at that place is one
pub feed_there : (bytes : List ℕ) (n : ℕ) → Passes (is_byte 10) bytes n → get_or bytes n 0 ≡ 10
feed_there bytes n is = eqb-true (get_or bytes n 0) 10 is

-- a byte other than LF goes to the front of the line after it
lines_of-other : (byte : ℕ) (bytes : List ℕ) → byte ≢ 10 → lines_of (byte ∷ bytes) ≡ at_front byte (lines_of bytes)
lines_of-other byte bytes other = let e : (byte == 10) ≡ false = grind (arith, nat_tests) in rw e refl

-- the bytes before the first LF are the first line
pub lines_of-line : (n : ℕ) (bytes : List ℕ) → ((k : ℕ) → k < n → get_or bytes k 0 ≢ 10)
    → n < length bytes → get_or bytes n 0 ≡ 10 → lines_of bytes ≡ take n bytes ∷ lines_of (drop (suc n) bytes)
lines_of-line n [] before within found = absurd (omega arith)
lines_of-line zero (byte ∷ bytes) before within found = rw found refl
lines_of-line (suc n) (byte ∷ bytes) before within found =
    let rest = lines_of-line n bytes (λ k h. before (suc k) (omega arith)) (omega arith) found in
    rw (lines_of-other byte bytes (before 0 (omega arith)), rest) refl

-- the same, with the rest as a range to the end
pub lines_of-range : (n : ℕ) (bytes : List ℕ) → ((k : ℕ) → k < n → get_or bytes k 0 ≢ 10)
    → n < length bytes → get_or bytes n 0 ≡ 10
    → lines_of bytes ≡ take n bytes ∷ lines_of (take (length bytes - (n + 1)) (drop (n + 1) bytes))
lines_of-range n bytes before within found =
    let rest : drop (suc n) bytes ≡ take (length bytes - (n + 1)) (drop (n + 1) bytes) =
    rw (add-one n) (sym (take-drop_all (suc n) bytes)) in
    lines_of-line n bytes before within found ∙ ap (λ bytes'. take n bytes ∷ lines_of bytes') rest

-- bytes without an LF are one line
pub lines_of-last : (bytes : List ℕ) → 0 < length bytes → ((k : ℕ) → k < length bytes → get_or bytes k 0 ≢ 10)
    → lines_of bytes ≡ bytes ∷ []
lines_of-last [] some before = absurd (omega arith)
lines_of-last (byte ∷ []) some before = rw (lines_of-other byte [] (before 0 (omega arith))) refl
lines_of-last (byte ∷ next ∷ bytes) some before =
    let rest = lines_of-last (next ∷ bytes) (omega arith) (λ k h. before (suc k) (omega arith)) in
    rw (lines_of-other byte (next ∷ bytes) (before 0 (omega arith)), rest) refl
