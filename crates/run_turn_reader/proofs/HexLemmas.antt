-- Hex, a part after another.
use Rattle.std.proofs.Common.{◌≡◌, refl, ap, ◌∙◌, List, [], ◌∷◌, ◌++◌, append_assoc, ℕ}
use Rattle.hex.specs.Hex.{encode_with, encode_lower, lower_digits}

-- the hex of two parts
encode-append : (digits xs ys : List ℕ) → encode_with digits (xs ++ ys) ≡ encode_with digits xs ++ encode_with digits ys
unfolding encode_with
encode-append digits [] ys = refl
encode-append digits (x ∷ xs) ys = rw (encode-append digits xs ys) refl

-- that of no bytes
pub none : encode_lower [] ≡ []
unfolding encode_with
none = refl

-- one part more
pub more : (before few part : List ℕ) → encode_lower part ≡ few
    → encode_lower (before ++ part) ≡ encode_lower before ++ few
more before few part h = encode-append lower_digits before part ∙ ap (λ xs. encode_lower before ++ xs) h

-- the same, of which this is still to be read
pub more_of : (all before few part later : List ℕ) → encode_lower before ++ (few ++ later) ≡ all
    → encode_lower part ≡ encode_lower before ++ few → encode_lower part ++ later ≡ all
more_of all before few part later h same = ap (λ xs. xs ++ later) same
    ∙ append_assoc (encode_lower before) few later ∙ h
