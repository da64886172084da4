-- The first of a list that passes a test.
use Rattle.std.proofs.Common.{◌≡◌, ℕ, ◌<◌, ◌≤◌, List, length, get_or, cond, Bool, true, false, nat_lt, position, Option}
use Rattle.std.proofs.Common.{Some}
use Rattle.std.proofs.Common.{None, refl, ap, sym, ◌∙◌, arith}
use Rattle.std.proofs.lemmas.Bool.Decides.{nat_tests}
use Rattle.std.proofs.lemmas.List.{get_or_past}
use Rattle.std.proofs.lemmas.List.Quantifiers.{position-Some}
use Rattle.std.specs.List.{position_or_len}
use Rattle.std.proofs.lemmas.List.Sums.{position_or_len_is}

-- the place of the first that passes, and none where none does
pub position_is : {X : Type 0} (p : X → Bool) (xs : List X) (d : X) → p d ≡ false → (i : ℕ) → p (get_or xs i d) ≡ true
    → ((k : ℕ) → k < i → p (get_or xs k d) ≡ false) → position p xs ≡ Some i
position_is p xs d out i here before = by_room (nat_lt i (length xs)) refl
  where
    by_room : (b : Bool) → nat_lt i (length xs) ≡ b → position p xs ≡ Some i
    by_room true e =
        let within : i < length xs = grind (arith, nat_tests) in
        let at : position_or_len p xs ≡ i = position_or_len_is p xs i d (omega arith) before (λ _. here) in
        ap (λ n. cond (nat_lt n (length xs)) (Some n) None) at ∙ ap (λ b. cond b (Some i) None) e
    by_room false e =
        let past : length xs ≤ i = grind (arith, nat_tests) in
        let never : false ≡ true = sym (ap p (get_or_past xs i d past) ∙ out) ∙ here in cc

pub position_none : {X : Type 0} (p : X → Bool) (xs : List X) (d : X) → ((k : ℕ) → p (get_or xs k d) ≡ false)
    → position p xs ≡ None
position_none p xs d none =
    let at : position_or_len p xs ≡ length xs =
    position_or_len_is p xs (length xs) d (omega arith) (λ k _. none k) (λ below. absurd (omega arith)) in
    let off : nat_lt (length xs) (length xs) ≡ false = grind (arith, nat_tests) in
    ap (λ n. cond (nat_lt n (length xs)) (Some n) None) at ∙ ap (λ b. cond b (Some (length xs)) None) off

-- of two lists with the same answers at each place the same is the first that passes
pub position_same : {X : Type 0} (p : X → Bool) (xs ys : List X) (d : X) → p d ≡ false
    → ((k : ℕ) → p (get_or ys k d) ≡ p (get_or xs k d)) → position p ys ≡ position p xs
position_same p xs ys d out same = by_first (position p xs) (position p ys) refl refl
  where
    by_first : (one other : Option ℕ) → position p xs ≡ one → position p ys ≡ other → other ≡ one
    by_first None None e f = refl
    by_first (Some i) other e f =
        let at = position-Some p xs i d e in
        sym f ∙ position_is p ys d out i (same i ∙ at.1) (λ k less. same k ∙ at.2 k less)
    by_first None (Some i) e f =
        let at = position-Some p ys i d f in
        sym (position_is p xs d out i (sym (same i) ∙ at.1) (λ k less. sym (same k) ∙ at.2 k less)) ∙ e
