-- What is kept of the tests' weights and slots, as one test moves to another seat.
use Rattle.std.proofs.Common.{◌≡◌, ℕ, zero, suc, ◌+◌, ◌<◌, ◌≤◌, ◌==◌, List, [], ◌∷◌, length, get_or, set, map, min}
use Rattle.std.proofs.Common.{Bool, true, false, not, Option, Some, None, is_none, refl, ap, sym, subst, ◌∙◌, arith}
use Rattle.std.proofs.Common.{zero-add, eq-eqb, ◌^◌, count_by, is_some, nat_lt}
use Rattle.std.proofs.Math.ListN.{get_or-map}
use Rattle.std.proofs.lemmas.List.{length-map, map-set, set-get_or, get_or_past, get_or-map as inner_map}
use Rattle.std.specs.Option.{option_map_or}
use Rattle.std.specs.List.{list_any, position_or_len, range_with_len, zip}
use Rattle.std.proofs.lemmas.List.Folds.{Any-from_list_any, list_any_at}
use Rattle.std.proofs.lemmas.List.FromFn.{get_or-range_with_len, length-range_with_len}
use Rattle.std.proofs.lemmas.List.Sums.{position_or_len_is, fails_before_first, passes_at_first, prefix_len-le-length}
use Rattle.run_admission.specs.declared.seat.Claim.{Claim}
use Rattle.run_admission.specs.declared.seat.Seat.{Seat}
use Rattle.run_admission.specs.declared.seat.Seat.TheVariants.{Waiting}
use Rattle.run_admission.specs.InUse.{Test, holds, least_free}
use Rattle.run_admission.specs.Kept.{Use, IsKept, CanTake, CanGive, nobody, free_in, take_of, give_back}
use Rattle.run_admission.proofs.ListLemmas.{zip_set, get_or_zip, length_zip}
use Rattle.run_admission.proofs.KeptLemmas.{take_kept, give_kept, none_there, can_take, can_give}

-- a function of each test, at one place, and after the test there moved to another seat
pub stood : {X : Type 0} (f : Test → X) (claims : List Claim) (seats : List Seat) (k : ℕ) → length claims ≡ length seats
    → k < length seats
    → get_or (map f (zip claims seats)) k (f nobody) ≡ f (get_or claims k nobody.0, get_or seats k Waiting)
stood f claims seats k same inside =
    get_or-map f (zip claims seats) k nobody
    ∙ ap f (get_or_zip claims seats k nobody.0 Waiting nobody (omega arith) inside)

moved : {X : Type 0} (f : Test → X) (claims : List Claim) (seats : List Seat) (k : ℕ) (s : Seat)
    → length claims ≡ length seats → k < length seats
    → map f (zip claims (set seats k s)) ≡ set (map f (zip claims seats)) k (f (get_or claims k nobody.0, s))
moved f claims seats k s same inside =
    ap (map f) (zip_set claims seats k nobody.0 s (omega arith))
    ∙ map-set f (zip claims seats) k (get_or claims k nobody.0, s)

-- a function of each test, side by side
lengths : {X Y : Type 0} (f : Test → X) (g : Test → Y) (ts : List Test) → length (map f ts) ≡ length (map g ts)
lengths f g ts = length-map ts f ∙ sym (length-map ts g)

-- a test that moves between seats in which it takes and holds the same leaves the limit as it is
pub stays : (u : Use) (weight : Test → ℕ) (slot : Test
    → Option ℕ) (claims : List Claim) (seats : List Seat) (k : ℕ) (s : Seat)
    → length claims ≡ length seats → k < length seats
    → weight (get_or claims k nobody.0, get_or seats k Waiting) ≡ weight (get_or claims k nobody.0, s)
    → slot (get_or claims k nobody.0, get_or seats k Waiting) ≡ slot (get_or claims k nobody.0, s)
    → IsKept u (map weight (zip claims seats)) (map slot (zip claims seats))
    → IsKept u (map weight (zip claims (set seats k s))) (map slot (zip claims (set seats k s)))
stays u weight slot claims seats k s same inside light free kept =
    let ws = map weight (zip claims seats) in
    let ss = map slot (zip claims seats) in
    let weights : ws ≡ map weight (zip claims (set seats k s)) =
    sym (moved weight claims seats k s same inside
    ∙ ap (set ws k) (sym (stood weight claims seats k same inside ∙ light))
    ∙ set-get_or ws k (weight nobody)) in
    let slots : ss ≡ map slot (zip claims (set seats k s)) =
    sym (moved slot claims seats k s same inside ∙ ap (set ss k) (sym (stood slot claims seats k same inside ∙ free))
    ∙ set-get_or ss k (slot nobody)) in
    subst (λ ws. IsKept u ws (map slot (zip claims (set seats k s)))) weights (subst (IsKept u ws) slots kept)

-- a test comes to use
pub may_take : (u : Use) (weight : Test → ℕ) (slot : Test → Option ℕ) (claims : List Claim) (seats : List Seat)
    (heavy : ℕ)
    → length claims ≡ length seats → length seats < 2 ^ 32
    → count_by is_some (map slot (zip claims seats)) < length u.holders → u.used + min heavy u.limit ≤ u.limit
    → IsKept u (map weight (zip claims seats)) (map slot (zip claims seats)) → CanTake u heavy
may_take u weight slot claims seats heavy same few free fits kept =
    let ss = map slot (zip claims seats) in
    let many : length ss ≡ length seats = length-map (zip claims seats) slot ∙ length_zip claims seats same in
    can_take u (map weight (zip claims seats)) ss heavy kept free (omega arith) fits

pub takes : (u : Use) (weight : Test → ℕ) (slot : Test
    → Option ℕ) (claims : List Claim) (seats : List Seat) (k heavy : ℕ) (s : Seat)
    → length claims ≡ length seats → k < length seats → weight nobody ≡ 0 → slot nobody ≡ None
    → weight (get_or claims k nobody.0, get_or seats k Waiting) ≡ 0
    → slot (get_or claims k nobody.0, get_or seats k Waiting) ≡ None
    → weight (get_or claims k nobody.0, s) ≡ min heavy u.limit → slot (get_or claims k nobody.0, s) ≡ Some (free_in u)
    → CanTake u heavy → IsKept u (map weight (zip claims seats)) (map slot (zip claims seats))
    → IsKept (take_of u k heavy) (map weight (zip claims (set seats k s))) (map slot (zip claims (set seats k s)))
takes u weight slot claims seats k heavy s same inside nothing nobodys light free weighs held can kept =
    let ws = map weight (zip claims seats) in
    let ss = map slot (zip claims seats) in
    let many : length ss ≡ length seats = length-map (zip claims seats) slot ∙ length_zip claims seats same in
    let zero : get_or ws k 0 ≡ 0 = ap (get_or ws k) (sym nothing) ∙ stood weight claims seats k same inside ∙ light in
    let none : get_or ss k None ≡ None =
    ap (get_or ss k) (sym nobodys) ∙ stood slot claims seats k same inside ∙ free in
    let weights : set ws k (min heavy u.limit) ≡ map weight (zip claims (set seats k s)) =
    sym (moved weight claims seats k s same inside ∙ ap (set ws k) weighs) in
    let slots : set ss k (Some (free_in u)) ≡ map slot (zip claims (set seats k s)) =
    sym (moved slot claims seats k s same inside ∙ ap (set ss k) held) in
    subst (λ ws. IsKept (take_of u k heavy) ws (map slot (zip claims (set seats k s)))) weights
    (subst (IsKept (take_of u k heavy) (set ws k (min heavy u.limit))) slots
    (take_kept u ws ss k heavy kept (lengths weight slot (zip claims seats)) (omega arith) zero none can))

-- a test leaves
pub may_give : (u : Use) (weight : Test → ℕ) (slot : Test
    → Option ℕ) (claims : List Claim) (seats : List Seat) (k n heavy : ℕ)
    → length claims ≡ length seats → k < length seats → weight nobody ≡ 0 → slot nobody ≡ None
    → weight (get_or claims k nobody.0, get_or seats k Waiting) ≡ min heavy u.limit
    → slot (get_or claims k nobody.0, get_or seats k Waiting) ≡ Some n
    → IsKept u (map weight (zip claims seats)) (map slot (zip claims seats)) → CanGive u n heavy
may_give u weight slot claims seats k n heavy same inside nothing nobodys weighs held kept =
    let ws = map weight (zip claims seats) in
    let ss = map slot (zip claims seats) in
    let many : length ss ≡ length seats = length-map (zip claims seats) slot ∙ length_zip claims seats same in
    let was : get_or ws k 0 ≡ min heavy u.limit =
    ap (get_or ws k) (sym nothing) ∙ stood weight claims seats k same inside ∙ weighs in
    let at : get_or ss k None ≡ Some n = ap (get_or ss k) (sym nobodys) ∙ stood slot claims seats k same inside
    ∙ held in
    can_give u ws ss k n heavy kept (lengths weight slot (zip claims seats)) (omega arith) was at

pub gives : (u : Use) (weight : Test → ℕ) (slot : Test
    → Option ℕ) (claims : List Claim) (seats : List Seat) (k n heavy : ℕ) (s : Seat)
    → length claims ≡ length seats → k < length seats → weight nobody ≡ 0 → slot nobody ≡ None
    → weight (get_or claims k nobody.0, get_or seats k Waiting) ≡ min heavy u.limit
    → slot (get_or claims k nobody.0, get_or seats k Waiting) ≡ Some n
    → weight (get_or claims k nobody.0, s) ≡ 0 → slot (get_or claims k nobody.0, s) ≡ None
    → CanGive u n heavy → IsKept u (map weight (zip claims seats)) (map slot (zip claims seats))
    → IsKept (give_back u n heavy) (map weight (zip claims (set seats k s))) (map slot (zip claims (set seats k s)))
gives u weight slot claims seats k n heavy s same inside nothing nobodys weighs held light free can kept =
    let ws = map weight (zip claims seats) in
    let ss = map slot (zip claims seats) in
    let many : length ss ≡ length seats = length-map (zip claims seats) slot ∙ length_zip claims seats same in
    let was : get_or ws k 0 ≡ min heavy u.limit =
    ap (get_or ws k) (sym nothing) ∙ stood weight claims seats k same inside ∙ weighs in
    let at : get_or ss k None ≡ Some n = ap (get_or ss k) (sym nobodys) ∙ stood slot claims seats k same inside
    ∙ held in
    let weights : set ws k 0 ≡ map weight (zip claims (set seats k s)) =
    sym (moved weight claims seats k s same inside ∙ ap (set ws k) light) in
    let slots : set ss k None ≡ map slot (zip claims (set seats k s)) =
    sym (moved slot claims seats k s same inside ∙ ap (set ss k) free) in
    subst (λ ws. IsKept (give_back u n heavy) ws (map slot (zip claims (set seats k s)))) weights
    (subst (IsKept (give_back u n heavy) (set ws k 0)) slots
    (give_kept u ws ss k n heavy kept (lengths weight slot (zip claims seats)) (omega arith) was at can))

-- a test that holds a slot, and what it means that one does
holds_it : (m n : ℕ) (o : Option ℕ) → o ≡ Some n → m ≡ n → option_map_or (λ j. j == m) o false ≡ true
holds_it m n o e same = ap (λ o. option_map_or (λ j. j == m) o false) e ∙ eq-eqb n m (sym same)

pub held_is : (n : ℕ) (o : Option ℕ) → option_map_or (λ j. j == n) o false ≡ true → o ≡ Some n
held_is n None e = cc
held_is n (Some m) e = let same : m ≡ n = grind (arith, e) in ap (λ n. Some n) same

some_there : (x : Option ℕ) → is_none x ≡ false → (n : ℕ) × (x ≡ Some n)
some_there None e = cc
some_there (Some n) e = (n, refl)

stands_inside : (xs : List (Option ℕ)) (n k : ℕ) → get_or xs n None ≡ Some k → n < length xs
stands_inside [] n k e = cc
stands_inside (x ∷ xs) zero k e = omega arith
stands_inside (x ∷ xs) (suc n) k e = let rest : n < length xs = stands_inside xs n k e in omega arith

-- none is at the first place of none, or past the end
first_none : (xs : List (Option ℕ)) → get_or xs (position_or_len is_none xs) None ≡ None
first_none xs = by_place (nat_lt (position_or_len is_none xs) (length xs)) refl
  where
    by_place : (b : Bool) → nat_lt (position_or_len is_none xs) (length xs) ≡ b
        → get_or xs (position_or_len is_none xs) None ≡ None
    by_place true e = none_there _ (passes_at_first is_none xs None (grind (arith, e)))
    by_place false e = get_or_past xs (position_or_len is_none xs) None (grind (arith, e))

-- the first slot that no test holds is the least free number
pub least_is : (u : Use) (ws : List ℕ) (slot : Test → Option ℕ) (ts : List Test) → slot nobody ≡ None
    → IsKept u ws (map slot ts) → least_free slot ts ≡ free_in u
least_is u ws slot ts nobodys kept =
    position_or_len_is (λ n. not (list_any (holds slot n) ts)) (range_with_len 0 (length ts)) (free_in u) 0
    (omega (arith, within, many, length-range_with_len 0 (length ts)))
    (λ k h. let few : k < length ts = omega (arith, within, many) in
    ap (λ n. not (list_any (holds slot n) ts)) (at k few) ∙ ap not (below k h))
    (λ h. let few : free_in u < length ts = omega (arith, length-range_with_len 0 (length ts)) in
    ap (λ n. not (list_any (holds slot n) ts)) (at (free_in u) few) ∙ ap not (here few))
  where
    many : length u.holders ≤ length ts
    many = omega (arith, kept.places, length-map ts slot)

    within : free_in u ≤ length u.holders
    within = prefix_len-le-length (λ x. not (is_none x)) u.holders

    at : (k : ℕ) → k < length ts → get_or (range_with_len 0 (length ts)) k 0 ≡ k
    at k h = get_or-range_with_len 0 (length ts) k 0 h ∙ zero-add k

    below : (k : ℕ) → k < free_in u → list_any (holds slot k) ts ≡ true
    below k h =
        let found = some_there _ (fails_before_first is_none u.holders k None h) in
        let points : get_or (map slot ts) found.0 None ≡ Some k = kept.held k found.0 found.1 in
        let inside : found.0 < length ts =
        omega (arith, stands_inside (map slot ts) found.0 k points, length-map ts slot) in
        let stands : slot (get_or ts found.0 nobody) ≡ Some k =
        sym (get_or-map slot ts found.0 nobody) ∙ ap (get_or (map slot ts) found.0) nobodys ∙ points in
        list_any_at (holds slot k) ts found.0 nobody inside (holds_it k k _ stands refl)

    here : free_in u < length ts → list_any (holds slot (free_in u)) ts ≡ false
    here few = by_case (list_any (holds slot (free_in u)) ts) refl
      where
        none : get_or u.holders (free_in u) None ≡ None
        none = first_none u.holders

        by_case : (b : Bool) → list_any (holds slot (free_in u)) ts ≡ b → b ≡ false
        by_case true e =
            let some = Any-from_list_any (holds slot (free_in u)) ts e in
            let stands : slot some.1 ≡ Some (free_in u) = held_is (free_in u) (slot some.1) some.4 in
            let inside : some.0 < length ts = some.2 in
            let points : get_or (map slot ts) some.0 None ≡ Some (free_in u) =
            get_or-map-in some.0 some.1 some.2 some.3 ∙ stands in
            let bad : None ≡ Some some.0 = sym none ∙ kept.holds some.0 (free_in u) points in
            cc
          where
            get_or-map-in : (k : ℕ) (t : Test) → k < length ts → get_or ts k t ≡ t
                → get_or (map slot ts) k None ≡ slot t
            get_or-map-in k t h e = inner_map slot ts k t None h ∙ ap slot e
        by_case false e = refl
