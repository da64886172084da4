-- The first test that may come, in the order in which they come, is the candidate.
use Rattle.std.proofs.Common.{◌≡◌, ◌≢◌, ℕ, zero, suc, ◌<◌, ◌⊎◌, inl, inr, ◌&&◌, ◌||◌, List, [], ◌∷◌, length}
use Rattle.std.proofs.Common.{get_or, set}
use Rattle.std.proofs.Common.{Bool, true, false, not, nat_lt, Some, None, position, replicate, refl, ap, sym, subst}
use Rattle.std.proofs.Common.{◌∙◌, arith, get_or-set_other}
use Rattle.std.specs.Prelude.{ℤ, int_lt}
use Rattle.std.specs.List.{list_any, zip}
use Rattle.std.proofs.lemmas.Grind.{get_or-set_at}
use Rattle.std.proofs.lemmas.List.{get_or-map, length-map}
use Rattle.std.proofs.lemmas.List.Quantifiers.{position-Some}
use Rattle.std.proofs.lemmas.List.Folds.{list_any_at}
use Rattle.run_admission.specs.declared.seat.Claim.{Claim}
use Rattle.run_admission.specs.declared.seat.Seat.{Seat}
use Rattle.run_admission.specs.declared.seat.Seat.TheVariants.{Waiting, Gone}
use Rattle.run_admission.specs.InUse.{Test, may_come, comes_next}
use Rattle.run_admission.specs.Kept.{Use, IsWhole, nobody, comes, seen}
use Rattle.run_admission.specs.Ordered.{IsBefore, IsOrder, at_places, priority_at}
use Rattle.run_admission.proofs.ListLemmas.{found_at, found_none, get_or_zip, length_zip}
use Rattle.run_admission.proofs.RuleLemmas.{come_same}

-- the items at some places
pub length_at_places : {X : Type 0} (d : X) (xs : List X) (places : List ℕ)
    → length (at_places d xs places) ≡ length places
length_at_places d xs places = length-map places (λ k. get_or xs k d)

pub get_at_places : {X : Type 0} (d : X) (xs : List X) (places : List ℕ) (r : ℕ) (e : X) → r < length places
    → get_or (at_places d xs places) r e ≡ get_or xs (get_or places r 0) d
get_at_places d xs places r e inside = get_or-map (λ k. get_or xs k d) places r 0 e inside

-- after an item at none of the places was set
apart_at_places : {X : Type 0} (d : X) (xs : List X) (places : List ℕ) (k : ℕ) (y : X)
    → ((r : ℕ) → r < length places → get_or places r 0 ≢ k) → at_places d (set xs k y) places ≡ at_places d xs places
apart_at_places d xs [] k y apart = refl
apart_at_places d xs (p ∷ places) k y apart =
    ap (λ x. x ∷ at_places d (set xs k y) places) (get_or-set_other xs k p y d (apart 0 (omega arith)))
    ∙ ap (λ l. get_or xs p d ∷ l) (apart_at_places d xs places k y (λ r h. apart (suc r) (omega arith)))

-- after an item at one of the places was set
pub set_at_places : {X : Type 0} (d : X) (xs : List X) (places : List ℕ) (r k : ℕ) (y : X) → r < length places
    → k < length xs → get_or places r 0 ≡ k → ((s : ℕ) → s < length places → s ≢ r → get_or places s 0 ≢ k)
    → at_places d (set xs k y) places ≡ set (at_places d xs places) r y
set_at_places d xs [] r k y inside known is apart = absurd (omega arith)
set_at_places d xs (p ∷ places) zero k y inside known is apart =
    ap (λ x. x ∷ at_places d (set xs k y) places) (get_or-set_at xs k p y d is known)
    ∙ ap (λ l. y ∷ l) (apart_at_places d xs places k y (λ s h. apart (suc s) (omega arith) (omega arith)))
set_at_places d xs (p ∷ places) (suc r) k y inside known is apart =
    ap (λ x. x ∷ at_places d (set xs k y) places)
    (get_or-set_other xs k p y d (apart 0 (omega arith) (omega arith)))
    ∙ ap (λ l. get_or xs p d ∷ l)
    (set_at_places d xs places r k y (omega arith) known is
    (λ s h other. apart (suc s) (omega arith) (omega (arith, other))))

-- a test stands at a place of the order
pub record IsPlace (order : List ℕ) (r t : ℕ) : Type 0 where
  pub inside : r < length order
  pub is : get_or order r 0 ≡ t

-- no test is before itself
pub not_above : (p : ℤ) → int_lt p p ≡ false
not_above p = grind arith

-- two places of the order are those of two tests
pub places_apart : (claims : List Claim) (order : List ℕ) (r s : ℕ) → IsOrder claims order → r < length order
    → s < length order → s ≢ r → get_or order s 0 ≢ get_or order r 0
places_apart claims order r s h inside within other same =
    by_side (nat_lt r s) refl
  where
    never : (i j : ℕ) → i < j → j < length order → get_or order i 0 ≡ get_or order j 0 → ⊥
    never i j less low e =
        let told = h.sorted i j less low in
        elim told.greater [
          | inl more ↦ let no : true ≡ false = sym more
              ∙ ap (λ k. int_lt (priority_at claims k) (priority_at claims (get_or order i 0))) (sym e)
              ∙ not_above (priority_at claims (get_or order i 0)) in cc
          | inr later ↦ omega (arith, later, e)
        ]

    by_side : (b : Bool) → nat_lt r s ≡ b → ⊥
    by_side true e = never r s (grind (arith, e)) within (sym same)
    by_side false e = never s r (grind (arith, e, other)) inside same

-- all tests at some places wait where all tests do
pub waiting_at_places : (n : ℕ) (places : List ℕ) → ((r : ℕ) → r < length places → get_or places r 0 < n)
    → at_places Gone (replicate n Waiting) places ≡ replicate (length places) Waiting
waiting_at_places n [] known = refl
waiting_at_places n (p ∷ places) known =
    ap (λ x. x ∷ at_places Gone (replicate n Waiting) places) (waits n p (known 0 (omega arith)))
    ∙ ap (λ l. Waiting ∷ l) (waiting_at_places n places (λ r h. known (suc r) (omega arith)))
  where
    waits : (n p : ℕ) → p < n → get_or (replicate n Waiting) p Gone ≡ Waiting
    waits zero p h = absurd (omega arith)
    waits (suc n) zero h = refl
    waits (suc n) (suc p) h = waits n p (omega arith)

-- a test in the order, with its seat
queue_at : (claims : List Claim) (seats : List Seat) (order : List ℕ) (r k : ℕ) → length claims ≡ length seats
    → IsOrder claims order → r < length order → get_or order r 0 ≡ k
    → get_or (zip (at_places nobody.0 claims order) (at_places Gone seats order)) r nobody
    ≡ get_or (zip claims seats) k nobody
queue_at claims seats order r k paired h inside is =
    let first = length_at_places nobody.0 claims order in
    let second = length_at_places Gone seats order in
    let known : k < length claims = omega (arith, h.known r inside, is) in
    get_or_zip (at_places nobody.0 claims order) (at_places Gone seats order) r nobody.0 Gone nobody
    (omega (arith, first)) (omega (arith, second))
    ∙ ap (λ c. (c, get_or (at_places Gone seats order) r Gone)) (get_at_places nobody.0 claims order r nobody.0 inside)
    ∙ ap (λ s. (get_or claims (get_or order r 0) nobody.0, s)) (get_at_places Gone seats order r Gone inside)
    ∙ ap (λ k. (get_or claims k nobody.0, get_or seats k Gone)) is
    ∙ sym (get_or_zip claims seats k nobody.0 Gone nobody known (omega (arith, paired)))

-- none passes
any_none : {X : Type 0} (p : X → Bool) (xs : List X) (d : X)
    → ((k : ℕ) → k < length xs → p (get_or xs k d) ≡ false) → list_any p xs ≡ false
any_none p [] d none = refl
any_none p (x ∷ xs) d none =
    ap (λ b. b || list_any p xs) (none 0 (omega arith)) ∙ any_none p xs d (λ k h. none (suc k) (omega arith))

module _ (waiting : ℕ) (whole : Use) (us : List Use) (claims : List Claim) (seats : List Seat) (order : List ℕ)
    (w : IsWhole waiting whole us claims seats) (h : IsOrder claims order) where
  many : length (zip claims seats) ≡ length order
  many = omega (arith, length_zip claims seats w.paired, w.paired, h.all)

  queued : length (zip (at_places nobody.0 claims order) (at_places Gone seats order)) ≡ length order
  queued = length_zip (at_places nobody.0 claims order) (at_places Gone seats order)
      (length_at_places nobody.0 claims order ∙ sym (length_at_places Gone seats order))
      ∙ length_at_places Gone seats order

  -- a test that may come has a place in the order
  record IsPlaced (k r : ℕ) : Type 0 where
    pub inside : r < length order
    pub is : get_or order r 0 ≡ k
    pub same : comes us (get_or (zip (at_places nobody.0 claims order) (at_places Gone seats order)) r nobody)
        ≡ may_come (seen whole us claims seats) (get_or (zip claims seats) k nobody)

  place_of : (k : ℕ) → k < length (zip claims seats) → (r : ℕ) × IsPlaced k r
  place_of k inside =
      let at = h.placed k (omega (arith, many, h.all)) in (
        at.0,
        record {
          inside = at.1;
          is = at.2;
          same = ap (comes us) (queue_at claims seats order at.0 k w.paired h at.1 at.2)
              ∙ come_same waiting whole us claims seats w k inside;
        },
      )

  -- where no test of the order may come, none comes next
  pub next_none : ((r : ℕ) → r < length order
      → comes us (get_or (zip (at_places nobody.0 claims order) (at_places Gone seats order)) r nobody) ≡ false)
      → position (comes_next (seen whole us claims seats)) (zip claims seats) ≡ None
  next_none none =
      found_none (comes_next (seen whole us claims seats)) (zip claims seats) nobody
      (λ k inside.
      let at = place_of k inside in
      ap (λ b. b && not (list_any (λ u. may_come (seen whole us claims seats) u
      && int_lt (get_or (zip claims seats) k nobody).0.priority u.0.priority) (zip claims seats)))
      (sym at.1.same ∙ none at.0 at.1.inside))

  -- the first test of the order that may come
  pub next_some : (r : ℕ)
      → position (comes us) (zip (at_places nobody.0 claims order) (at_places Gone seats order)) ≡ Some r
      → position (comes_next (seen whole us claims seats)) (zip claims seats) ≡ Some (get_or order r 0)
  next_some r found =
      found_at (comes_next (seen whole us claims seats)) (zip claims seats) k nobody (omega (arith, many, known, h.all))
      earlier here
    where
      at : (r < length (zip (at_places nobody.0 claims order) (at_places Gone seats order)))
          × (comes us (get_or (zip (at_places nobody.0 claims order) (at_places Gone seats order)) r nobody) ≡ true)
          × ((s : ℕ) → s < r
          → comes us (get_or (zip (at_places nobody.0 claims order) (at_places Gone seats order)) s nobody) ≡ false)
      at = position-Some (comes us) (zip (at_places nobody.0 claims order) (at_places Gone seats order)) r nobody found

      low : r < length order
      low = omega (arith, queued, at.0)

      k : ℕ
      k = get_or order r 0

      known : k < length claims
      known = h.known r low

      -- the priority of a test of the plan
      of_test : (j : ℕ) → j < length (zip claims seats)
          → (get_or (zip claims seats) j nobody).0.priority ≡ priority_at claims j
      of_test j inside =
          ap (λ (t : Test). t.0.priority)
          (get_or_zip claims seats j nobody.0 Gone nobody (omega (arith, many, h.all))
          (omega (arith, many, h.all, w.paired)))

      -- a test that may come is this one, or comes after it
      later : (j : ℕ) → j < length (zip claims seats)
          → may_come (seen whole us claims seats) (get_or (zip claims seats) j nobody) ≡ true
          → (j ≡ k) ⊎ IsBefore claims k j
      later j inside may = by_place (place_of j inside)
        where
          by_side : (s : ℕ) → IsPlaced j s → (b c : Bool) → nat_lt s r ≡ b → nat_lt r s ≡ c
              → (j ≡ k) ⊎ IsBefore claims k j
          by_side s p true c e f =
              let no : true ≡ false = sym may ∙ sym p.same ∙ at.2 s (grind (arith, e)) in cc
          by_side s p false true e f =
              inr (subst (IsBefore claims k) p.is (h.sorted r s (grind (arith, f)) p.inside))
          by_side s p false false e f =
              let same : s ≡ r = grind (arith, e, f) in inl (sym p.is ∙ ap (λ s. get_or order s 0) same)

          by_place : (s : ℕ) × IsPlaced j s → (j ≡ k) ⊎ IsBefore claims k j
          by_place s = by_side s.0 s.1 (nat_lt s.0 r) (nat_lt r s.0) refl refl

      comes_here : may_come (seen whole us claims seats) (get_or (zip claims seats) k nobody) ≡ true
      comes_here =
          sym (come_same waiting whole us claims seats w k (omega (arith, many, known, h.all)))
          ∙ ap (comes us) (sym (queue_at claims seats order r k w.paired h low refl)) ∙ at.1

      none_above : (j : ℕ) → j < length (zip claims seats)
          → (may_come (seen whole us claims seats) (get_or (zip claims seats) j nobody)
          && int_lt (priority_at claims k) (get_or (zip claims seats) j nobody).0.priority) ≡ false
      none_above j inside = by_may (may_come (seen whole us claims seats) (get_or (zip claims seats) j nobody)) refl
        where
          by_may : (b : Bool) → may_come (seen whole us claims seats) (get_or (zip claims seats) j nobody) ≡ b
              → (may_come (seen whole us claims seats) (get_or (zip claims seats) j nobody)
              && int_lt (priority_at claims k) (get_or (zip claims seats) j nobody).0.priority) ≡ false
          by_may false e =
              ap (λ b. b && int_lt (priority_at claims k) (get_or (zip claims seats) j nobody).0.priority) e
          by_may true e =
              ap (λ b. b && int_lt (priority_at claims k) (get_or (zip claims seats) j nobody).0.priority) e
              ∙ ap (int_lt (priority_at claims k)) (of_test j inside)
              ∙ elim (later j inside e) [
                | inl same ↦ ap (λ j. int_lt (priority_at claims k) (priority_at claims j)) same
                    ∙ not_above (priority_at claims k)
                | inr told ↦ told.no_less
              ]

      here : comes_next (seen whole us claims seats) (get_or (zip claims seats) k nobody) ≡ true
      here =
          ap (λ b. b && not (list_any (λ u. may_come (seen whole us claims seats) u
          && int_lt (get_or (zip claims seats) k nobody).0.priority u.0.priority) (zip claims seats)))
          comes_here
          ∙ ap (λ p. not (list_any (λ u. may_come (seen whole us claims seats) u && int_lt p u.0.priority)
          (zip claims seats))) (of_test k (omega (arith, many, known, h.all)))
          ∙ ap not (any_none (λ u. may_come (seen whole us claims seats) u
          && int_lt (priority_at claims k) u.0.priority) (zip claims seats) nobody none_above)

      -- a test before it in the plan that may come has a lesser priority
      less_than : (j : ℕ) → j < k → (j ≡ k) ⊎ IsBefore claims k j
          → int_lt (priority_at claims j) (priority_at claims k) ≡ true
      less_than j less (inl same) = absurd (omega arith)
      less_than j less (inr told) = elim told.greater [ inl more ↦ more | inr later ↦ absurd (omega arith) ]

      earlier : (j : ℕ) → j < k → comes_next (seen whole us claims seats) (get_or (zip claims seats) j nobody) ≡ false
      earlier j less = by_may (may_come (seen whole us claims seats) (get_or (zip claims seats) j nobody)) refl
        where
          inside : j < length (zip claims seats)
          inside = omega (arith, many, known, h.all)

          by_may : (b : Bool) → may_come (seen whole us claims seats) (get_or (zip claims seats) j nobody) ≡ b
              → comes_next (seen whole us claims seats) (get_or (zip claims seats) j nobody) ≡ false
          by_may false e =
              ap (λ b. b && not (list_any (λ u. may_come (seen whole us claims seats) u
              && int_lt (get_or (zip claims seats) j nobody).0.priority u.0.priority) (zip claims seats))) e
          by_may true e =
              ap (λ b. b && not (list_any (λ u. may_come (seen whole us claims seats) u
              && int_lt (get_or (zip claims seats) j nobody).0.priority u.0.priority) (zip claims seats))) e
              ∙ ap not (list_any_at (λ u. may_come (seen whole us claims seats) u
              && int_lt (get_or (zip claims seats) j nobody).0.priority u.0.priority) (zip claims seats) k nobody
              (omega (arith, many, known, h.all))
              (ap (λ b. b && int_lt (get_or (zip claims seats) j nobody).0.priority
              (get_or (zip claims seats) k nobody).0.priority) comes_here
              ∙ ap (λ p. int_lt p (get_or (zip claims seats) k nobody).0.priority) (of_test j inside)
              ∙ ap (int_lt (priority_at claims j)) (of_test k (omega (arith, many, known, h.all)))
              ∙ less_than j less (later j inside e)))
