-- Of the items that pass a test, one has the greatest number.
use Rattle.std.proofs.Common.{◌≡◌, ◌&&◌, ◌||◌, List, [], ◌∷◌, Bool, true, false, refl, ap, ◌∙◌, arith}
use Rattle.std.specs.Prelude.{ℤ, int_lt}
use Rattle.std.specs.List.{list_any}
use Rattle.run_capture.proofs.Facts.{or_right}
use Rattle.run_admission.proofs.NextLemmas.{not_above}

-- an item of a list that passes, and of those that pass none has a greater number
pub record IsGreatest {X : Type 0} (p : X → Bool) (n : X → ℤ) (xs : List X) (x : X) : Type 0 where
  pub passes : p x ≡ true
  pub among : (q : X → Bool) → q x ≡ true → list_any q xs ≡ true
  pub none_above : list_any (λ u. p u && int_lt (n x) (n u)) xs ≡ false

-- none is above where none passes
none_passes : {X : Type 0} (p g : X → Bool) (xs : List X) → list_any p xs ≡ false
    → list_any (λ u. p u && g u) xs ≡ false
none_passes p g [] none = refl
none_passes p g (x ∷ xs) none = by_first (p x) refl none (none_passes p g xs)
  where
    by_first : (b : Bool) → p x ≡ b → (b || list_any p xs) ≡ false
        → (list_any p xs ≡ false → list_any (λ u. p u && g u) xs ≡ false)
        → list_any (λ u. p u && g u) (x ∷ xs) ≡ false
    by_first true e bad rest = cc
    by_first false e lacks rest = ap (λ b. (b && g x) || list_any (λ u. p u && g u) xs) e ∙ rest lacks

less_less : (a b c : ℤ) → int_lt a b ≡ true → int_lt a c ≡ false → int_lt b c ≡ false
less_less a b c e f = grind (arith, e, f)

-- nor above a greater number
none_higher : {X : Type 0} (p : X → Bool) (n : X → ℤ) (a b : ℤ) (xs : List X) → int_lt a b ≡ true
    → list_any (λ u. p u && int_lt a (n u)) xs ≡ false → list_any (λ u. p u && int_lt b (n u)) xs ≡ false
none_higher p n a b [] more none = refl
none_higher p n a b (x ∷ xs) more none =
    by_first (p x) (int_lt a (n x)) refl refl none (none_higher p n a b xs more)
  where
    by_first : (s t : Bool) → p x ≡ s → int_lt a (n x) ≡ t
        → ((s && t) || list_any (λ u. p u && int_lt a (n u)) xs) ≡ false
        → (list_any (λ u. p u && int_lt a (n u)) xs ≡ false → list_any (λ u. p u && int_lt b (n u)) xs ≡ false)
        → list_any (λ u. p u && int_lt b (n u)) (x ∷ xs) ≡ false
    by_first true true e f bad rest = cc
    by_first true false e f lacks rest =
        ap (λ s. (s && int_lt b (n x)) || list_any (λ u. p u && int_lt b (n u)) xs) e
        ∙ ap (λ t. t || list_any (λ u. p u && int_lt b (n u)) xs) (less_less a b (n x) more f)
        ∙ rest lacks
    by_first false t e f lacks rest =
        ap (λ s. (s && int_lt b (n x)) || list_any (λ u. p u && int_lt b (n u)) xs) e ∙ rest lacks

-- where one passes, one is the greatest
pub greatest : {X : Type 0} (p : X → Bool) (n : X → ℤ) (xs : List X) → list_any p xs ≡ true
    → (x : X) × IsGreatest p n xs x
greatest p n [] some = cc
greatest {X} p n (x ∷ xs) some = by_first (p x) (list_any p xs) refl refl some (greatest p n xs)
  where
    first_above : (a : ℤ) (s t : Bool) → p x ≡ s → int_lt a (n x) ≡ t → (s && t) ≡ false
        → list_any (λ u. p u && int_lt a (n u)) xs ≡ false → list_any (λ u. p u && int_lt a (n u)) (x ∷ xs) ≡ false
    first_above a s t e f lacks rest =
        ap (λ s. (s && int_lt a (n x)) || list_any (λ u. p u && int_lt a (n u)) xs) e
        ∙ ap (λ t. (s && t) || list_any (λ u. p u && int_lt a (n u)) xs) f
        ∙ ap (λ b. b || list_any (λ u. p u && int_lt a (n u)) xs) lacks ∙ rest

    this : p x ≡ true → list_any (λ u. p u && int_lt (n x) (n u)) xs ≡ false → (y : X) × IsGreatest p n (x ∷ xs) y
    this e rest = (
      x,
      record {
        passes = e;
        among = λ q h. ap (λ b. b || list_any q xs) h;
        none_above = first_above (n x) true false e (not_above (n x)) refl rest;
      },
    )

    that : (y : X) → IsGreatest p n xs y → (s t : Bool) → p x ≡ s → int_lt (n y) (n x) ≡ t → (s && t) ≡ false
        → (y : X) × IsGreatest p n (x ∷ xs) y
    that y h s t e f lacks = (
      y,
      record {
        passes = h.passes;
        among = λ q i. or_right (q x) (list_any q xs) (h.among q i);
        none_above = first_above (n y) s t e f lacks h.none_above;
      },
    )

    compared : (z : (y : X) × IsGreatest p n xs y) → (t : Bool) → p x ≡ true → int_lt (n z.0) (n x) ≡ t
        → (y : X) × IsGreatest p n (x ∷ xs) y
    compared y true e f = this e (none_higher p n (n y.0) (n x) xs f y.1.none_above)
    compared y false e f = that y.0 y.1 true false e f refl

    by_first : (b c : Bool) → p x ≡ b → list_any p xs ≡ c → (b || c) ≡ true
        → (list_any p xs ≡ true → (y : X) × IsGreatest p n xs y) → (y : X) × IsGreatest p n (x ∷ xs) y
    by_first true true e f h rest = compared (rest f) (int_lt (n (rest f).0) (n x)) e refl
    by_first true false e f h rest = this e (none_passes p (λ u. int_lt (n x) (n u)) xs f)
    by_first false true e f h rest =
        that (rest f).0 (rest f).1 false (int_lt (n (rest f).0) (n x)) e refl refl
    by_first false false e f h rest = cc
