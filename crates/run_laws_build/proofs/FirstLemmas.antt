-- The first place of a list that passes a test.
use Rattle.std.proofs.Common.{◌≡◌, ℕ, zero, suc, ◌+◌, ◌<◌, List, [], ◌∷◌, length, take, Bool, true, false}
use Rattle.std.proofs.Common.{not, cond, ◌||◌, nat_lt, if◌then◌else◌, Option, Some, None, option_map, position}
use Rattle.std.proofs.Common.{slice_get, refl, ap, sym, subst, ◌∙◌, arith, zero-add}
use Rattle.std.specs.List.{list_any, position_or_len, range_with_len}
use Rattle.std.proofs.lemmas.List.FromFn.{get_or-range_with_len, length-range_with_len}
use Rattle.std.proofs.lemmas.Option.{same_Some, slice_get_within, slice_get-get_or, get_or_from_slice_get}

-- the first place of one item more
position-cons : {X : Type 0} (f : X → Bool) (x : X) (xs : List X)
    → position f (x ∷ xs) ≡ (if f x then Some 0 else option_map suc (position f xs))
position-cons f x xs = by_first (f x)
  where
    later : (n m : ℕ) (b : Bool) → nat_lt n m ≡ b
        → cond (nat_lt (1 + n) (suc m)) (Some (1 + n)) None ≡ option_map suc (cond b (Some n) None)
    later n m true e =
        let less : nat_lt (1 + n) (suc m) ≡ true = grind (arith, e) in
        let next : 1 + n ≡ suc n = omega arith in
        ap (λ b. cond b (Some (1 + n)) None) less ∙ ap Some next
    later n m false e =
        let less : nat_lt (1 + n) (suc m) ≡ false = grind (arith, e) in
        ap (λ b. cond b (Some (1 + n)) None) less

    by_first : (b : Bool)
        → cond (nat_lt (cond (not b) (1 + position_or_len f xs) 0) (suc (length xs)))
        (Some (cond (not b) (1 + position_or_len f xs) 0)) None
        ≡ (if b then Some 0 else option_map suc (position f xs))
    by_first true =
        let less : nat_lt 0 (suc (length xs)) ≡ true = grind arith in ap (λ b. cond b (Some 0) None) less
    by_first false = later (position_or_len f xs) (length xs) (nat_lt (position_or_len f xs) (length xs)) refl

-- the item at a place passes, and none before it does
pub record IsFirstAt {X : Type 0} (f : X → Bool) (xs : List X) (k : ℕ) (x : X) : Type 0 where
  pub at : slice_get xs k ≡ Some x
  pub passes : f x ≡ true
  pub earlier : (i : ℕ) (y : X) → i < k → slice_get xs i ≡ Some y → f y ≡ false

pub position_first : {X : Type 0} (f : X → Bool) (xs : List X) (k : ℕ) → position f xs ≡ Some k
    → (x : X) × IsFirstAt f xs k x
position_first f [] k e = cc
position_first {X} f (x ∷ xs) k e =
    by_first (f x) refl (λ j is. position_first f xs j is) (sym (position-cons f x xs) ∙ e)
  where
    Later : Type 0
    Later = (j : ℕ) → position f xs ≡ Some j → (y : X) × IsFirstAt f xs j y

    longer : (j : ℕ) (y : X) → f x ≡ false → IsFirstAt f xs j y → IsFirstAt f (x ∷ xs) (suc j) y
    longer j y first h = record { at = h.at; passes = h.passes; earlier = earlier }
      where
        earlier : (i : ℕ) (z : X) → i < suc j → slice_get (x ∷ xs) i ≡ Some z → f z ≡ false
        earlier zero z below at = ap f (sym (same_Some x z at)) ∙ first
        earlier (suc i) z below at = h.earlier i z (omega (arith, below)) at

    by_rest : (o : Option ℕ) → position f xs ≡ o → f x ≡ false → Later → option_map suc o ≡ Some k
        → (y : X) × IsFirstAt f (x ∷ xs) k y
    by_rest None is first later e = cc
    by_rest (Some j) is first later e =
        let found = later j is in
        (found.0, subst (λ k. IsFirstAt f (x ∷ xs) k found.0) (same_Some (suc j) k e) (longer j found.0 first found.1))

    by_first : (b : Bool) → f x ≡ b → Later → (if b then Some 0 else option_map suc (position f xs)) ≡ Some k
        → (y : X) × IsFirstAt f (x ∷ xs) k y
    by_first true is later e = (
      x,
      subst (λ k. IsFirstAt f (x ∷ xs) k x) (same_Some 0 k e)
          (record { at = refl; passes = is; earlier = λ i y below at. absurd (omega (arith, below)) }),
    )
    by_first false is later e = by_rest (position f xs) refl is later e

-- none passes
pub position_none : {X : Type 0} (f : X → Bool) (xs : List X) → position f xs ≡ None → (k : ℕ) (x : X)
    → slice_get xs k ≡ Some x → f x ≡ false
position_none f [] e k x at = cc
position_none {X} f (y ∷ ys) e k x at =
    by_first (f y) refl (λ is. position_none f ys is) (sym (position-cons f y ys) ∙ e) k at
  where
    Later : Type 0
    Later = position f ys ≡ None → (k : ℕ) (x : X) → slice_get ys k ≡ Some x → f x ≡ false

    by_rest : (o : Option ℕ) → position f ys ≡ o → f y ≡ false → Later → option_map suc o ≡ None
        → (k : ℕ) → slice_get (y ∷ ys) k ≡ Some x → f x ≡ false
    by_rest (Some j) is first later e k at = cc
    by_rest None is first later e zero at = ap f (sym (same_Some y x at)) ∙ first
    by_rest None is first later e (suc k) at = later is k x at

    by_first : (b : Bool) → f y ≡ b → Later → (if b then Some 0 else option_map suc (position f ys)) ≡ None
        → (k : ℕ) → slice_get (y ∷ ys) k ≡ Some x → f x ≡ false
    by_first true is later e k at = cc
    by_first false is later e k at = by_rest (position f ys) refl is later e k at

-- and the other way round
pub first_position : {X : Type 0} (f : X → Bool) (xs : List X) (k : ℕ) (x : X) → IsFirstAt f xs k x
    → position f xs ≡ Some k
first_position {X} f xs k x h = by_place (position f xs) refl
  where
    by_order : (j : ℕ) (y : X) → IsFirstAt f xs j y → (b c : Bool) → nat_lt j k ≡ b → nat_lt k j ≡ c → j ≡ k
    by_order j y other true c e g =
        let below : j < k = grind (arith, e) in
        let never : true ≡ false = sym other.passes ∙ h.earlier j y below other.at in cc
    by_order j y other false true e g =
        let below : k < j = grind (arith, g) in
        let never : true ≡ false = sym h.passes ∙ other.earlier k x below h.at in cc
    by_order j y other false false e g = grind (arith, e, g)

    by_place : (o : Option ℕ) → position f xs ≡ o → position f xs ≡ Some k
    by_place None is = let never : true ≡ false = sym h.passes ∙ position_none f xs is k x h.at in cc
    by_place (Some j) is =
        let found = position_first f xs j is in
        is ∙ ap Some (by_order j found.0 found.1 (nat_lt j k) (nat_lt k j) refl refl)

pub none_position : {X : Type 0} (f : X → Bool) (xs : List X)
    → ((k : ℕ) (x : X) → slice_get xs k ≡ Some x → f x ≡ false) → position f xs ≡ None
none_position f xs none = by_place (position f xs) refl
  where
    by_place : (o : Option ℕ) → position f xs ≡ o → position f xs ≡ None
    by_place None is = is
    by_place (Some k) is =
        let found = position_first f xs k is in
        let never : true ≡ false = sym found.1.passes ∙ none k found.0 found.1.at in cc

-- the numbers below a length stand at their own places
pub number_at : (n k : ℕ) → k < n → slice_get (range_with_len 0 n) k ≡ Some k
number_at n k below =
    slice_get-get_or (range_with_len 0 n) k 0 (omega (arith, below, length-range_with_len 0 n))
    ∙ ap Some (get_or-range_with_len 0 n k 0 below ∙ zero-add k)

pub number_there : (n k j : ℕ) → slice_get (range_with_len 0 n) k ≡ Some j → (k < n) × (j ≡ k)
number_there n k j at =
    let within = slice_get_within (range_with_len 0 n) k j at in
    let below : k < n = omega (arith, within, length-range_with_len 0 n) in (
      below,
      sym (get_or_from_slice_get (range_with_len 0 n) k j 0 at) ∙ get_or-range_with_len 0 n k 0 below ∙ zero-add k,
    )

-- one of the items before a place passes exactly where one stands at an earlier place
pub record PassesBefore {X : Type 0} (f : X → Bool) (xs : List X) (k : ℕ) : Type 0 where
  pub place : ℕ
  pub item : X
  pub earlier : place < k
  pub there : slice_get xs place ≡ Some item
  pub passes : f item ≡ true

pub any_before : {X : Type 0} (f : X → Bool) (xs : List X) (k : ℕ) → list_any f (take k xs) ≡ true
    → PassesBefore f xs k
any_before f [] zero e = cc
any_before f [] (suc k) e = cc
any_before f (x ∷ xs) zero e = cc
any_before f (x ∷ xs) (suc k) e = by_first (f x) refl (λ is. any_before f xs k is) e
  where
    by_first : (b : Bool) → f x ≡ b → (list_any f (take k xs) ≡ true → PassesBefore f xs k)
        → (b || list_any f (take k xs)) ≡ true → PassesBefore f (x ∷ xs) (suc k)
    by_first true is later e = record { place = 0; item = x; earlier = omega arith; there = refl; passes = is }
    by_first false is later e =
        let h = later e in
        let below = h.earlier in
        record {
          place = suc h.place;
          item = h.item;
          earlier = omega (arith, below);
          there = h.there;
          passes = h.passes;
        }

pub before_any : {X : Type 0} (f : X → Bool) (xs : List X) (k i : ℕ) (x : X) → i < k → slice_get xs i ≡ Some x
    → f x ≡ true → list_any f (take k xs) ≡ true
before_any f [] k i x below at passes = cc
before_any f (y ∷ ys) zero i x below at passes = absurd (omega (arith, below))
before_any f (y ∷ ys) (suc k) zero x below at passes =
    ap (λ b. b || list_any f (take k ys)) (ap f (same_Some y x at) ∙ passes)
before_any f (y ∷ ys) (suc k) (suc i) x below at passes =
    ap (λ b. f y || b) (before_any f ys k i x (omega (arith, below)) at passes) ∙ or_true (f y)
  where
    or_true : (b : Bool) → (b || true) ≡ true
    or_true true = refl
    or_true false = refl
