-- A record whose bytes are there.
use Rattle.std.proofs.Common.{◌≡◌, ◌∙◌, ℕ, zero, suc, ◌<◌, ◌≤◌, ◌^◌, ◌||◌, List, [], ◌∷◌, ◌++◌, length, take, drop}
use Rattle.std.proofs.Common.{Some, None, Bool, true, false, not, nat_lt, slice_get, refl, sym, ap, ap₂, arith}
use Rattle.std.proofs.Common.{subst, append_assoc}
use Rattle.std.specs.Int.{w32, to_be_bytes, from_be_bytes}
use Rattle.std.proofs.lemmas.Bool.Decides.{nat_tests}
use Rattle.std.proofs.lemmas.Nat.{be_bytes_4}
use Rattle.hex.specs.Hex.{IsBytes}
use Rattle.run_store.specs.Records.{most_bytes, framed, length_in, payload_in, Awaited, is_bad_length, is_bad_of}
use Rattle.run_store.specs.Records.{is_bad}
use Rattle.run_store.proofs.RecordLemmas.{length_in-framed, payload_in-framed, take_length, take_drop}
use Rattle.run_store_io.specs.Found.{IsRecord}

-- there is one number in a `Some`
same_number : (m n : ℕ) → Some m ≡ Some n → m ≡ n
same_number m n e = cc e

-- a record whose length is said, and whose bytes are there, is split off
pub record_there : (aw : Awaited) (bytes : List ℕ) (kind count : ℕ) (rest payload after : List ℕ) → IsBytes bytes
    → length_in bytes ≡ Some count → slice_get bytes 0 ≡ Some kind → aw.kinds kind ≡ true
    → is_bad_length kind count ≡ false → rest ≡ drop 5 bytes → count ≤ length rest
    → payload ≡ take count rest → after ≡ drop count rest → IsRecord aw bytes kind payload after
record_there aw [] kind count rest payload after fit said first may fine is there p a = cc said
record_there aw (k ∷ []) kind count rest payload after fit said first may fine is there p a = cc said
record_there aw (k ∷ w ∷ []) kind count rest payload after fit said first may fine is there p a = cc said
record_there aw (k ∷ w ∷ x ∷ []) kind count rest payload after fit said first may fine is there p a = cc said
record_there aw (k ∷ w ∷ x ∷ y ∷ []) kind count rest payload after fit said first may fine is there p a = cc said
record_there aw (k ∷ w ∷ x ∷ y ∷ z ∷ bytes) kind count rest payload after fit said first may fine is there p a =
    let number : from_be_bytes w32 (w ∷ x ∷ y ∷ z ∷ []) ≡ count =
    same_number (from_be_bytes w32 (w ∷ x ∷ y ∷ z ∷ [])) count said in
    let one : k ≡ kind = same_number k kind first in
    let long : length payload ≡ count = ap length p ∙ take_length count rest there in
    let four : to_be_bytes w32 (length payload) ≡ w ∷ x ∷ y ∷ z ∷ [] =
    be_bytes_4 (w ∷ x ∷ y ∷ z ∷ []) (length payload) refl (four_of k w x y z bytes fit) (long ∙ sym number) in
    let all : payload ++ after ≡ bytes =
    ap₂ (λ (s : List ℕ) (t : List ℕ). s ++ t) p a ∙ take_drop count rest ∙ is in
    record {
      split = ap (λ (h : ℕ). h ∷ w ∷ x ∷ y ∷ z ∷ bytes) one
          ∙ ap (λ (l : List ℕ). kind ∷ w ∷ x ∷ y ∷ z ∷ l) (sym all)
          ∙ ap (λ (l : List ℕ). kind ∷ (l ++ (payload ++ after))) (sym four);
      may = may;
      fits = ap (is_bad_length kind) long ∙ fine;
    }
  where
    four_of : (k w x y z : ℕ) (bytes : List ℕ) → IsBytes (k ∷ w ∷ x ∷ y ∷ z ∷ bytes)
        → IsBytes (w ∷ x ∷ y ∷ z ∷ [])
    four_of k w x y z bytes fit zero = fit 1
    four_of k w x y z bytes fit (suc zero) = fit 2
    four_of k w x y z bytes fit (suc (suc zero)) = fit 3
    four_of k w x y z bytes fit (suc (suc (suc zero))) = fit 4
    four_of k w x y z bytes fit (suc (suc (suc (suc i)))) = omega arith

-- the last of three makes an `or` true
last_true : (x y : Bool) → (x || (y || true)) ≡ true
last_true true y = refl
last_true false true = refl
last_true false false = refl

-- a record's length isn't bad, so it isn't great
pub not_long : (aw : Awaited) (bytes : List ℕ) (kind : ℕ) (payload after : List ℕ)
    → IsRecord aw bytes kind payload after → length payload ≤ most_bytes
not_long aw bytes kind payload after h = at_most (nat_lt most_bytes (length payload)) _ refl h.fits
  where
    at_most : (b c : Bool) → nat_lt most_bytes (length payload) ≡ b → (b || c) ≡ false
        → length payload ≤ most_bytes
    at_most true c is e = cc e
    at_most false c is e = grind (arith, nat_tests, is)

-- a record with a wrong payload is bad
pub wrong_bad : (aw : Awaited) (bytes : List ℕ) (kind : ℕ) (payload after : List ℕ)
    → IsRecord aw bytes kind payload after → aw.payloads kind payload ≡ false → is_bad aw bytes ≡ true
wrong_bad aw bytes kind payload after h wrong =
    let small : length payload < 2 ^ 32 = omega (arith, not_long aw bytes kind payload after h) in
    ap (is_bad aw) h.split
    ∙ ap₂ (is_bad_of aw kind) (length_in-framed kind payload after small) (payload_in-framed kind payload after small)
    ∙ ap (λ (b : Bool). not (aw.kinds kind) || (is_bad_length kind (length payload) || not b)) wrong
    ∙ last_true (not (aw.kinds kind)) (is_bad_length kind (length payload))
