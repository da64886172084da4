-- The steps of reading items, as the pieces of a glob.
use Rattle.std.proofs.Common.{ℕ, zero, suc, ◌≡◌, ◌<◌, ◌-◌, sym, ◌∙◌, refl, ap, List, [], ◌∷◌, ◌++◌, append_assoc}
use Rattle.std.proofs.Common.{Option, Some, None, option_map, length, drop, arith, nat_eq, true, false, ◌==◌}
use Rattle.std.proofs.lemmas.Bool.Decides.{nat_tests}
use Rattle.std.proofs.lemmas.List.{append-nil}
use Rattle.run_filter.specs.GlobText.{ItemRead, items_of}

-- pieces before others, where these are
abbrev pub after_front : {A : Type 0} → List A → Option (List A) → Option (List A)
after_front front r = option_map (λ ps. front ++ ps) r

pub no_front : {A : Type 0} (r : Option (List A)) → after_front [] r ≡ r
no_front None = refl
no_front (Some ps) = refl

fronts : {A : Type 0} (a : List A) (p : A) (r : Option (List A))
    → after_front a (option_map (λ ps. p ∷ ps) r) ≡ after_front (a ++ p ∷ []) r
fronts a p None = refl
fronts {A = A} a p (Some ps) = ap (λ (x : List A). Some x) (sym (append_assoc a (p ∷ []) ps))

items_of-none : {A : Type 0} (f : List ℕ → ItemRead A) (n : ℕ) (t : List ℕ) → n ≡ 0 → items_of f n t ≡ Some []
unfolding items_of
items_of-none f n t h = rw h refl

items_of-empty : {A : Type 0} (f : List ℕ → ItemRead A) (n : ℕ) (t : List ℕ) → length t ≡ 0 → items_of f n t ≡ Some []
unfolding items_of
items_of-empty f zero t h = refl
items_of-empty f (suc n) t h = rw h refl

some_length : (t : List ℕ) → 0 < length t → nat_eq (length t) 0 ≡ false
some_length t h = grind arith

items_of-wrong : {A : Type 0} (f : List ℕ → ItemRead A) (n : ℕ) (t : List ℕ) → 0 < n → 0 < length t → f t ≡ None
    → items_of f n t ≡ None
unfolding items_of
items_of-wrong f zero t l k h = absurd (omega arith)
items_of-wrong f (suc n) t l k h = let e = some_length t k in rw e (rw h refl)

items_of-more : {A : Type 0} (f : List ℕ → ItemRead A) (n : ℕ) (t : List ℕ) (p : A) (k : ℕ) → 0 < n → 0 < length t
    → f t ≡ Some (p, k)
    → items_of f n t ≡ option_map (λ ps. p ∷ ps) (items_of f (n - 1) (drop k t))
unfolding items_of
items_of-more f zero t p k l q h = absurd (omega arith)
items_of-more f (suc n) t p k l q h =
    let e : suc n - 1 ≡ n = omega arith in
    let some = some_length t q in
    rw some (rw h (rw e refl))

-- ---- the loop

front_only : {A : Type 0} (front : List A) (r : Option (List A)) → r ≡ Some [] → Some front ≡ after_front front r
front_only {A = A} front r h = rw h (ap (λ (x : List A). Some x) (sym (append-nil front)))

pub ends_none : {A : Type 0} (f : List ℕ
    → ItemRead A) (front : List A) (n : ℕ) (t : List ℕ) (whole : Option (List A)) → n ≡ 0
    → whole ≡ after_front front (items_of f n t) → Some front ≡ whole
ends_none f front n t whole h w = front_only front (items_of f n t) (items_of-none f n t h) ∙ sym w

pub ends_empty : {A : Type 0} (f : List ℕ
    → ItemRead A) (front : List A) (n : ℕ) (t : List ℕ) (whole : Option (List A)) → length t ≡ 0
    → whole ≡ after_front front (items_of f n t) → Some front ≡ whole
ends_empty f front n t whole h w = front_only front (items_of f n t) (items_of-empty f n t h) ∙ sym w

pub ends_wrong : {A : Type 0} (f : List ℕ
    → ItemRead A) (front : List A) (n : ℕ) (t : List ℕ) (whole : Option (List A)) → 0 < n → 0 < length t
    → f t ≡ None
    → whole ≡ after_front front (items_of f n t) → None ≡ whole
ends_wrong f front n t whole l k h w = let e = items_of-wrong f n t l k h in sym (w ∙ rw e refl)

pub goes_on : {A : Type 0} (f : List ℕ
    → ItemRead A) (front later : List A) (n : ℕ) (t u : List ℕ) (p : A) (k : ℕ) (whole : Option (List A))
    → 0 < n → 0 < length t
    → f t ≡ Some (p, k) → later ≡ front ++ p ∷ [] → u ≡ drop k t
    → whole ≡ after_front front (items_of f n t) → whole ≡ after_front later (items_of f (n - 1) u)
goes_on f front later n t u p k whole l q h more d w =
    let e = items_of-more f n t p k l q h in
    w ∙ rw e (fronts front p (items_of f (n - 1) (drop k t)) ∙ rw (more, d) refl)

-- ---- what tests of a length say

pub no_length : (t : List ℕ) → true ≡ (length t == 0) → length t ≡ 0
no_length [] h = refl
no_length (x ∷ xs) h = grind (arith, nat_tests)

pub has_length : (t : List ℕ) → false ≡ (length t == 0) → 0 < length t
has_length [] h = cc
has_length (x ∷ xs) h = omega arith

pub begins_empty : {A : Type 0} (front : List A) (r : Option (List A)) → front ≡ [] → r ≡ after_front front r
begins_empty front r h = rw h (sym (no_front r))
