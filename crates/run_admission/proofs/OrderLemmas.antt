-- Tests that were sorted by priority and place stand in the order in which they come.
use Rattle.std.proofs.Common.{◌≡◌, ◌≢◌, ℕ, ◌<◌, ◌⊎◌, inl, inr, List, length, get_or, map, Bool, true, false}
use Rattle.std.proofs.Common.{nat_eq, cond, refl, ap, sym, subst, ◌∙◌, arith}
use Rattle.std.specs.Prelude.{ℤ, pos, int_lt}
use Rattle.std.specs.Cmp.{IsTotalOrder}
use Rattle.std.specs.List.{IsDistinct}
use Rattle.std.specs.List.Sorted.{apply_swaps}
use Rattle.std.specs.Ordering.{int_cmp, nat_cmp, is_lt, ordering_then}
use Rattle.std.specs.declared.cmp.Ordering.TheVariants.{Less, Equal, Greater}
use Rattle.std.proofs.lemmas.Cmp.{then_total, on_total, back_total, int_cmp_total, nat_cmp_total, nat_eq_equiv}
use Rattle.std.proofs.lemmas.Grind.{get_or_moved, in_moved}
use Rattle.std.proofs.lemmas.List.{get_or-map, length-map}
use Rattle.std.proofs.lemmas.List.Sorted.{length_permutation, ranks_by, sorted_far}
use Rattle.std.proofs.lemmas.Map.Keys.{IsDistinct-IsPermutation, IsDistinct-from_apart, apart_from_distinct}
use Rattle.run_admission.specs.declared.seat.Claim.{Claim}
use Rattle.run_admission.proofs.ListLemmas.{get_default}
use Rattle.run_admission.specs.Ordered.{IsBefore, IsOrder, IsRanking, Rank, priority_at, rank_cmp}

-- the ranks are in a total order
rank_total : IsTotalOrder rank_cmp
rank_total =
    then_total (on_total (λ (r : Rank). r.0.0) (back_total int_cmp_total))
    (on_total (λ (r : Rank). r.1) nat_cmp_total)

-- two ranks of one test
abbrev same_test : Rank → Rank → Bool
same_test x y = nat_eq x.1 y.1

-- what two ranks that are sorted say of two priorities and two places
says : (less more : Bool) (j k : ℕ) → k ≢ j
    → is_lt (ordering_then (cond less Less (cond more Greater Equal)) (nat_cmp k j)) ≡ false
    → (less ≡ false) × ((more ≡ true) ⊎ (j < k))
says true more j k apart e = cc
says false true j k apart e = (refl, inl refl)
says false false j k apart e = (refl, inr (grind (arith, e)))

before : (p q : ℤ) (j k : ℕ) → k ≢ j → is_lt (ordering_then (int_cmp p q) (nat_cmp k j)) ≡ false
    → (int_lt p q ≡ false) × ((int_lt q p ≡ true) ⊎ (j < k))
before p q j k apart e = says (int_lt p q) (int_lt q p) j k apart e

not_same : (a b i j : ℕ) → a ≡ i → b ≡ j → i < j → nat_eq a b ≡ false
not_same a b i j p q less = grind (arith, p, q)

other : (a b : ℕ) → nat_eq a b ≡ false → b ≢ a
other a b e = grind (arith, e)

no_rank : Rank
no_rank = (record { 0 = pos 0 }, 0)

module _ (claims : List Claim) (ranks : List Rank) (h : IsRanking claims ranks) where
  -- a rank is that of a test
  rank_is : (r : ℕ) (d : Rank) → r < length ranks
      → ((get_or ranks r d).0.0 ≡ priority_at claims (get_or ranks r d).1) × ((get_or ranks r d).1 < length claims)
  rank_is r d inside =
      let m = h.moved in
      let long : length ranks ≡ length (apply_swaps h.plan m.moves) = ap length m.is in
      let found = get_or_moved h.plan m.moves r d m.below (omega (arith, long, inside)) in
      let same : get_or ranks r d ≡ get_or h.plan found.1.0 d = ap (λ l. get_or l r d) m.is ∙ found.1.2 in
      let at = h.ranked.each found.1.0 d found.1.1 in (
        ap (λ (x : Rank). x.0.0) same ∙ at.0
            ∙ ap (priority_at claims) (sym at.1 ∙ ap (λ (x : Rank). x.1) (sym same)),
        omega (arith, ap (λ (x : Rank). x.1) same, at.1, found.1.1, h.ranked.all),
      )

  -- each test has a rank
  rank_of : (k : ℕ) → k < length claims → (r : ℕ) × (r < length ranks) × ((get_or ranks r no_rank).1 ≡ k)
  rank_of k inside =
      let m = h.moved in
      let within : k < length h.plan = omega (arith, h.ranked.all) in
      let x : Rank = get_or h.plan k no_rank in
      let found = in_moved h.plan m.moves k x m.below within (get_default h.plan k no_rank x within) in
      let at = h.ranked.each k no_rank within in
      let low : found.1.0 < length ranks = omega (arith, ap length m.is, found.1.1) in (
        found.1.0,
        low,
        ap (λ (x : Rank). x.1) (get_default ranks found.1.0 no_rank x low ∙ ap (λ l. get_or l found.1.0 x) m.is
            ∙ found.1.2)
            ∙ at.1,
      )

  -- no two ranks are of one test
  apart : (r s : ℕ) (d : Rank) → r < s → s < length ranks → (get_or ranks s d).1 ≢ (get_or ranks r d).1
  apart r s d less inside =
      let distinct : IsDistinct same_test h.plan =
      IsDistinct-from_apart same_test h.plan (λ i j d less within. not_same _ _ i j
      (h.ranked.each i d (omega (arith, less, within))).1 (h.ranked.each j d within).1 less) in
      other _ _ (apart_from_distinct same_test ranks r s d
      (IsDistinct-IsPermutation same_test (λ x y. nat_eq_equiv.symm x.1 y.1) h.plan ranks h.moved distinct) less inside)

  test_at : (r : ℕ) → r < length ranks → get_or (map (λ (x : Rank). x.1) ranks) r 0 ≡ (get_or ranks r no_rank).1
  test_at r inside = get_or-map (λ (x : Rank). x.1) ranks r no_rank 0 inside

  -- a test comes before those of later ranks
  rank_before : (r s : ℕ) → r < s → s < length ranks
      → IsBefore claims (get_or ranks r no_rank).1 (get_or ranks s no_rank).1
  rank_before r s less inside =
      let x : Rank = get_or ranks s no_rank in
      let y : Rank = get_or ranks r no_rank in
      let far : is_lt (rank_cmp x y) ≡ false =
      sorted_far (λ (x y : Rank). is_lt (rank_cmp x y)) (ranks_by rank_total (λ (x : Rank). x)) ranks h.sorted r s
      no_rank
      (omega arith) inside in
      let told = before y.0.0 x.0.0 y.1 x.1 (apart r s no_rank less inside) far in
      let first : y.0.0 ≡ priority_at claims y.1 = (rank_is r no_rank (omega arith)).0 in
      let second : x.0.0 ≡ priority_at claims x.1 = (rank_is s no_rank inside).0 in
      record {
        no_less = ap (λ p. int_lt p (priority_at claims x.1)) (sym first) ∙ ap (int_lt y.0.0) (sym second) ∙ told.0;
        greater = elim told.1 [
          | inl more ↦ inl (ap (λ p. int_lt p (priority_at claims y.1)) (sym second) ∙ ap (int_lt x.0.0) (sym first)
              ∙ more)
          | inr later ↦ inr later
        ];
      }

  -- so the tests by their ranks are in order
  pub ranked_order : IsOrder claims (map (λ (x : Rank). x.1) ranks)
  ranked_order = record {
    all = many ∙ long;
    known = λ r inside. subst (λ n. n < length claims) (sym (test_at r (omega (arith, many, inside))))
        (rank_is r no_rank (omega (arith, many, inside))).1;
    placed = λ k inside.
        let found = rank_of k inside in
        (found.0, omega (arith, many, found.1), test_at found.0 found.1 ∙ found.2);
    sorted = λ r s less inside.
        subst (λ j. IsBefore claims j (get_or (map (λ (x : Rank). x.1) ranks) s 0))
        (sym (test_at r (omega (arith, many, less, inside))))
        (subst (IsBefore claims (get_or ranks r no_rank).1) (sym (test_at s (omega (arith, many, inside))))
        (rank_before r s less (omega (arith, many, inside))));
  }
    where
      many : length (map (λ (x : Rank). x.1) ranks) ≡ length ranks
      many = length-map ranks (λ (x : Rank). x.1)

      long : length ranks ≡ length claims
      long = length_permutation h.plan ranks h.moved ∙ h.ranked.all
