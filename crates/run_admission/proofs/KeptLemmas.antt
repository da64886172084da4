-- What is kept of one limit, as tests take of it and give back.
use Rattle.std.proofs.Common.{◌≡◌, ◌≢◌, ℕ, zero, suc, ◌+◌, ◌<◌, ◌≤◌, ◌^◌, ◌==◌, List, [], ◌∷◌, length, get_or, set, min}
use Rattle.std.proofs.Common.{Bool, true, false, cond, Option, Some, None, is_none, is_some, count_by, refl, ap, sym}
use Rattle.std.proofs.Common.{◌∙◌, arith, get_or-set_other}
use Rattle.std.proofs.Math.ListN.{length-set}
use Rattle.std.proofs.lemmas.Grind.{get_or-set_at}
use Rattle.std.proofs.lemmas.Option.{same_Some}
use Rattle.std.specs.List.{position_or_len}
use Rattle.std.proofs.lemmas.List.Sums.{sum_by-cons, sum_by-set, get_or-le-sum_by, count_by-le-length, passes_at_first}
use Rattle.run_admission.specs.Kept.{Use, Points, IsKept, CanTake, CanGive, free_in, take_of, give_back}

-- a test took a free place
points_taken : (hs ss : List (Option ℕ)) (n k : ℕ) → Points hs ss → get_or ss k None ≡ None → k < length ss
    → n < length hs → Points (set hs n (Some k)) (set ss k (Some n))
points_taken hs ss n k p none inside here i j at = by_place (i == n) refl
  where
    by_place : (b : Bool) → (i == n) ≡ b → get_or (set ss k (Some n)) j None ≡ Some i
    by_place true e =
        let is : i ≡ n = grind arith in
        let same : k ≡ j = same_Some k j (sym (get_or-set_at hs n i (Some k) None is here) ∙ at) in
        get_or-set_at ss k j (Some n) None (sym same) inside ∙ ap (λ n. Some n) (sym is)
    by_place false e =
        let apart : i ≢ n = grind arith in
        let old : get_or ss j None ≡ Some i = p i j (sym (get_or-set_other hs n i (Some k) None apart) ∙ at) in
        get_or-set_other ss k j (Some n) None
        (λ e. let bad : None ≡ Some i = sym none ∙ ap (λ j. get_or ss j None) (sym e) ∙ old in cc) ∙ old

-- a test gave its place back
points_given : (hs ss : List (Option ℕ)) (n k : ℕ) → Points hs ss → get_or ss k None ≡ Some n → n < length hs
    → Points (set hs n None) (set ss k None)
points_given hs ss n k p held here i j at = by_place (i == n) refl
  where
    by_place : (b : Bool) → (i == n) ≡ b → get_or (set ss k None) j None ≡ Some i
    by_place true e =
        let is : i ≡ n = grind arith in
        let bad : None ≡ Some j = sym (get_or-set_at hs n i None None is here) ∙ at in
        cc
    by_place false e =
        let apart : i ≢ n = grind arith in
        let old : get_or ss j None ≡ Some i = p i j (sym (get_or-set_other hs n i None None apart) ∙ at) in
        get_or-set_other ss k j None None
        (λ e. apart (same_Some i n (sym old ∙ ap (λ j. get_or ss j None) e ∙ held))) ∙ old

-- how many places are taken, after one was set
count_set : (xs : List (Option ℕ)) (k : ℕ) (was : Bool) (new : Option ℕ) → is_some (get_or xs k None) ≡ was
    → k < length xs
    → count_by is_some (set xs k new) + cond was 1 0 ≡ count_by is_some xs + cond (is_some new) 1 0
count_set xs k was new is inside =
    ap (λ b. count_by is_some (set xs k new) + cond b 1 0) (sym is)
    ∙ sum_by-set (λ x. cond (is_some x) 1 0) xs k new None inside

-- not all places are taken where one is free
pub count_lt : (xs : List (Option ℕ)) (k : ℕ) → get_or xs k None ≡ None → k < length xs
    → count_by is_some xs < length xs
count_lt xs k none inside =
    omega (
      arith,
      count_set xs k false (Some 0) (ap is_some none) inside,
      count_by-le-length is_some (set xs k (Some 0)),
      length-set xs k (Some 0),
    )

-- the places before the first free one are taken
free_le : (xs : List (Option ℕ)) → position_or_len is_none xs ≤ count_by is_some xs
free_le [] = omega arith
free_le (None ∷ xs) = omega arith
free_le (Some n ∷ xs) = omega (arith, free_le xs, sum_by-cons (λ x. cond (is_some x) 1 0) (Some n) xs)

-- a test whose weight fits can take of a limit, not all of whose slots are held
pub can_take : (u : Use) (ws : List ℕ) (ss : List (Option ℕ)) (weight : ℕ) → IsKept u ws ss
    → count_by is_some ss < length u.holders → length ss < 2 ^ 32 → u.used + min weight u.limit ≤ u.limit
    → CanTake u weight
can_take u ws ss weight c free few fits = record {
  fits = fits;
  free = omega (arith, free_le u.holders, free, c.counted);
  few = omega (arith, c.places);
}

pub none_there : (x : Option ℕ) → is_none x ≡ true → x ≡ None
none_there None e = refl
none_there (Some n) e = cc

-- after a test took of a limit
pub take_kept : (u : Use) (ws : List ℕ) (ss : List (Option ℕ)) (k weight : ℕ) → IsKept u ws ss → length ws ≡ length ss
    → k < length ss → get_or ws k 0 ≡ 0 → get_or ss k None ≡ None → CanTake u weight
    → IsKept (take_of u k weight) (set ws k (min weight u.limit)) (set ss k (Some (free_in u)))
take_kept u ws ss k weight c same inside light none can = record {
  sum = omega (arith, c.sum, light, sum_by-set (λ x. x) ws k (min weight u.limit) 0 (omega arith));
  within = can.fits;
  places = omega (arith, c.places, length-set u.holders (free_in u) (Some k), length-set ss k (Some (free_in u)));
  counted = omega (
    arith,
    c.counted,
    count_set u.holders (free_in u) false (Some k) (ap is_some free) can.free,
    count_set ss k false (Some (free_in u)) (ap is_some none) inside,
  );
  held = points_taken u.holders ss (free_in u) k c.held none inside can.free;
  holds = points_taken ss u.holders k (free_in u) c.holds free can.free inside;
}
  where
    free : get_or u.holders (free_in u) None ≡ None
    free = none_there _ (passes_at_first is_none u.holders None can.free)

-- a test that holds a slot can give back
pub can_give : (u : Use) (ws : List ℕ) (ss : List (Option ℕ)) (k n weight : ℕ) → IsKept u ws ss → length ws ≡ length ss
    → k < length ss → get_or ws k 0 ≡ min weight u.limit → get_or ss k None ≡ Some n → CanGive u n weight
can_give u ws ss k n weight c same inside heavy held = record {
  used = omega (arith, c.sum, heavy, get_or-le-sum_by (λ x. x) ws k 0 (omega arith));
  held = inside_of u.holders n k (c.holds k n held);
}
  where
    inside_of : (xs : List (Option ℕ)) (n k : ℕ) → get_or xs n None ≡ Some k → n < length xs
    inside_of [] n k e = cc
    inside_of (x ∷ xs) zero k e = omega arith
    inside_of (x ∷ xs) (suc n) k e = let rest : n < length xs = inside_of xs n k e in omega arith

-- after a test gave back
pub give_kept : (u : Use) (ws : List ℕ) (ss : List (Option ℕ)) (k n weight : ℕ) → IsKept u ws ss → length ws ≡ length ss
    → k < length ss → get_or ws k 0 ≡ min weight u.limit → get_or ss k None ≡ Some n → CanGive u n weight
    → IsKept (give_back u n weight) (set ws k 0) (set ss k None)
give_kept u ws ss k n weight c same inside heavy held can = record {
  sum = omega (arith, c.sum, heavy, sum_by-set (λ x. x) ws k 0 0 (omega arith));
  within = omega (arith, c.within);
  places = omega (arith, c.places, length-set u.holders n None, length-set ss k None);
  counted = omega (
    arith,
    c.counted,
    count_set u.holders n true None (ap is_some holder) can.held,
    count_set ss k true None (ap is_some held) inside,
  );
  held = points_given u.holders ss n k c.held held can.held;
  holds = points_given ss u.holders k n c.holds holder inside;
}
  where
    holder : get_or u.holders n None ≡ Some k
    holder = c.holds k n held
