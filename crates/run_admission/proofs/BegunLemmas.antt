-- The limits of a sub-run as it begins.
use Rattle.std.proofs.Common.{◌≡◌, ℕ, zero, suc, ◌*◌, ◌<◌, ◌≤◌, ◌^◌, List, [], ◌∷◌, length, get_or, map, replicate}
use Rattle.std.proofs.Common.{slice_get}
use Rattle.std.proofs.Common.{Bool, true, false, if◌then◌else◌, Option, Some, None, refl, ap, sym, subst, ◌∙◌, arith}
use Rattle.std.proofs.Common.{option_and_then, sum, nat_eq, count_by, cond, is_some}
use Rattle.std.specs.List.{zip}
use lib.Pointwise.{pointwise}
use Rattle.std.proofs.lemmas.List.{length-map, length-replicate}
use Rattle.std.proofs.lemmas.List.Folds.{sum_by-replicate}
use Rattle.std.proofs.lemmas.List.Sums.{count_by-le-length}
use Rattle.std.proofs.lemmas.List.Quantifiers.{position-Some}
use Rattle.run_events.specs.declared.plan.Group.{Group}
use Rattle.run_events.specs.declared.plan.PlanTest.{PlanTest}
use Rattle.run_admission.specs.declared.seat.Claim.{Claim}
use Rattle.run_admission.specs.declared.seat.Seat.TheVariants.{Waiting}
use Rattle.run_admission.specs.InUse.{Test, taken, taken_in, slot_of, slot_in, is_of, group_of, claim_of}
use Rattle.run_admission.specs.InUse.{new_admissions}
use Rattle.run_admission.proofs.WaitLemmas.{all_wait}
use Rattle.run_admission.specs.Kept.{Use, IsKept, IsOfGroup, IsWhole, IsSeated, AreMembers, Points, nobody, unused}
use Rattle.run_admission.specs.Kept.{unused_each, seen}
use Rattle.run_admission.proofs.ListLemmas.{length_zip}

-- of tests that all wait, each is the same to what looks at seats alone
waiting_same : {X : Type 0} (f : Test → X) (x : X) → ((c : Claim) → f (c, Waiting) ≡ x) → (claims : List Claim) (n : ℕ)
    → length claims ≡ n → map f (zip claims (replicate n Waiting)) ≡ replicate n x
waiting_same f x same [] zero e = refl
waiting_same f x same [] (suc n) e = absurd (omega arith)
waiting_same f x same (c ∷ cs) zero e = absurd (omega arith)
waiting_same f x same (c ∷ cs) (suc n) e =
    ap (λ y. y ∷ map f (zip cs (replicate n Waiting))) (same c)
    ∙ ap (λ l. x ∷ l) (waiting_same f x same cs n (omega arith))

none_of : (n i : ℕ) → get_or (replicate {A = Option ℕ} n None) i None ≡ None
none_of zero i = refl
none_of (suc n) zero = refl
none_of (suc n) (suc i) = none_of n i

no_points : (n m : ℕ) → Points (replicate n None) (replicate m None)
no_points n m i k e = let bad : None ≡ Some k = sym (none_of n i) ∙ e in cc

nothing : (n : ℕ) → sum (replicate n 0) ≡ 0
nothing n = let times : sum (replicate n 0) ≡ n * 0 = sum_by-replicate (λ x. x) n 0 in omega (arith, times)

none_taken : (n : ℕ) → count_by is_some (replicate {A = Option ℕ} n None) ≡ 0
none_taken n =
    let times : count_by is_some (replicate {A = Option ℕ} n None) ≡ n * 0 =
    sum_by-replicate (λ x. cond (is_some x) 1 0) n None in omega (arith, times)

-- nothing is in use, where there are no more slots than tests
unused_kept : (slots n limit : ℕ) → slots ≤ n → IsKept (unused slots limit) (replicate n 0) (replicate n None)
unused_kept slots n limit few = record {
  sum = sym (nothing n);
  within = omega arith;
  places = omega (arith, few, length-replicate {A = Option ℕ} slots None, length-replicate {A = Option ℕ} n None);
  counted = none_taken slots ∙ sym (none_taken n);
  held = no_points slots n;
  holds = no_points n slots;
}

waiting_kept : (slots n limit : ℕ) (weight : Test → ℕ) (slot : Test → Option ℕ) (claims : List Claim) → slots ≤ n
    → length claims ≡ n
    → ((c : Claim) → weight (c, Waiting) ≡ 0) → ((c : Claim) → slot (c, Waiting) ≡ None)
    → IsKept (unused slots limit) (map weight (zip claims (replicate n Waiting)))
    (map slot (zip claims (replicate n Waiting)))
waiting_kept slots n limit weight slot claims few same light free =
    subst (λ ws. IsKept (unused slots limit) ws (map slot (zip claims (replicate n Waiting))))
    (sym (waiting_same weight 0 light claims n same))
    (subst (IsKept (unused slots limit) (replicate n 0)) (sym (waiting_same slot None free claims n same))
    (unused_kept slots n limit few))

zero_both : (b : Bool) → ◌≡◌ {A = ℕ} (if b then 0 else 0) 0
zero_both true = refl
zero_both false = refl

none_both : (b : Bool) → ◌≡◌ {A = Option ℕ} (if b then None else None) None
none_both true = refl
none_both false = refl

waiting_seated : (claims : List Claim) (n j : ℕ) → IsSeated (get_or (zip claims (replicate n Waiting)) j nobody)
waiting_seated [] n j e = cc
waiting_seated (c ∷ cs) zero j e = cc
waiting_seated (c ∷ cs) (suc n) zero e = cc
waiting_seated (c ∷ cs) (suc n) (suc j) e = waiting_seated cs n j e

-- a test's group is one of the plan's
group_inside : (groups : List Group) (o : Option (List ℕ)) (g : ℕ) → option_and_then (group_of groups) o ≡ Some g
    → g < length groups
group_inside groups None g e = cc
group_inside groups (Some name) g e =
    let none : Group = record { name = []; limit = 0 } in
    (position-Some (λ g. pointwise nat_eq g.name name) groups g none e).0

pub members_inside : (groups : List Group) (tests : List PlanTest) (k g : ℕ)
    → (get_or (map (claim_of groups) tests) k nobody.0).group ≡ Some g → g < length groups
members_inside groups [] k g e = cc
members_inside groups (t ∷ ts) zero g e = group_inside groups t.group g e
members_inside groups (t ∷ ts) (suc k) g e = members_inside groups ts k g e

-- the limit of a group of which nothing is in use
unused_at : (counts : List ℕ) (groups : List Group) (g : ℕ) (u : Use) → slice_get (unused_each counts groups) g ≡ Some u
    → u ≡ unused (get_or counts g 0) u.limit
unused_at [] groups g u e = cc
unused_at (n ∷ ns) [] g u e = cc
unused_at (n ∷ ns) (x ∷ xs) zero u e = let is : unused n x.limit ≡ u = cc in sym is ∙ ap (λ u. unused n u.limit) is
unused_at (n ∷ ns) (x ∷ xs) (suc g) u e = unused_at ns xs g u e

each_there : (counts : List ℕ) (groups : List Group) → length counts ≡ length groups
    → length (unused_each counts groups) ≡ length groups
each_there counts groups all =
    length-map (zip counts groups) (λ r. unused r.0 r.1.limit) ∙ length_zip counts groups all

-- each group has as many slots as tests
slots_of : (counts : List ℕ) (groups : List Group) (claims : List Claim) (g : ℕ) (u : Use)
    → AreMembers (length groups) claims counts → slice_get (unused_each counts groups) g ≡ Some u
    → (u ≡ unused (count_by (is_of g) claims) u.limit) × (length u.holders ≡ count_by (is_of g) claims)
slots_of counts groups claims g u members e =
    let inside : g < length groups =
    omega (arith, inside_of (unused_each counts groups) g u e, each_there counts groups members.all) in
    let is : u ≡ unused (count_by (is_of g) claims) u.limit =
    unused_at counts groups g u e ∙ ap (λ n. unused n u.limit) (members.each g inside) in
    (is, ap (λ v. length v.holders) is ∙ length-replicate (count_by (is_of g) claims) None)
  where
    inside_of : (us : List Use) (g : ℕ) (u : Use) → slice_get us g ≡ Some u → g < length us
    inside_of [] g u e = cc
    inside_of (v ∷ us) zero u e = omega arith
    inside_of (v ∷ us) (suc g) u e = let rest : g < length us = inside_of us g u e in omega arith

-- a sub-run begins
pub begun_whole : (threads : ℕ) (groups : List Group) (tests : List PlanTest) (counts : List ℕ) → length tests < 2 ^ 32
    → AreMembers (length groups) (map (claim_of groups) tests) counts
    → IsWhole (length tests) (unused (length tests) threads) (unused_each counts groups)
    (map (claim_of groups) tests) (replicate (length tests) Waiting)
begun_whole threads groups tests counts few members = record {
  few = omega (arith, few, length-replicate (length tests) Waiting);
  paired = length-map tests (claim_of groups) ∙ sym (length-replicate (length tests) Waiting);
  waits = all_wait (length tests);
  all = waiting_kept (length tests) (length tests) threads (taken threads) slot_of (map (claim_of groups) tests)
      (omega arith) (length-map tests (claim_of groups)) (λ c. refl) (λ c. refl);
  groups = λ g u e. group_kept g u (slots_of counts groups (map (claim_of groups) tests) g u members e).0;
  slots = length-replicate (length tests) None ∙ sym (length-replicate (length tests) Waiting);
  places = λ g u e. (slots_of counts groups (map (claim_of groups) tests) g u members e).1;
  members = λ k g e. omega (arith, members_inside groups tests k g e, each_there counts groups members.all);
  seated = waiting_seated (map (claim_of groups) tests) (length tests);
}
  where
    group_kept : (g : ℕ) (u : Use) → u ≡ unused (count_by (is_of g) (map (claim_of groups) tests)) u.limit
        → IsOfGroup g u (zip (map (claim_of groups) tests) (replicate (length tests) Waiting))
    group_kept g u is =
        subst (λ v. IsKept v (map (taken_in g u.limit)
        (zip (map (claim_of groups) tests) (replicate (length tests) Waiting)))
        (map (slot_in g) (zip (map (claim_of groups) tests) (replicate (length tests) Waiting))))
        (sym is)
        (waiting_kept (count_by (is_of g) (map (claim_of groups) tests)) (length tests) u.limit (taken_in g u.limit)
        (slot_in g) (map (claim_of groups) tests)
        (omega (arith, count_by-le-length (is_of g) (map (claim_of groups) tests), length-map tests (claim_of groups)))
        (length-map tests (claim_of groups)) (λ c. zero_both (is_of g c)) (λ c. none_both (is_of g c)))

pub begun_within : (threads : ℕ) (groups : List Group) (tests : List PlanTest) (counts : List ℕ) → length tests < 2 ^ 32
    → AreMembers (length groups) (map (claim_of groups) tests) counts
    → (g : ℕ) (u : Use) → slice_get (unused_each counts groups) g ≡ Some u → u.used ≤ u.limit
begun_within threads groups tests counts few members g u e =
    ((begun_whole threads groups tests counts few members).groups g u e).within

pub begun_there : (threads : ℕ) (groups : List Group) (tests : List PlanTest) (counts : List ℕ) → length tests < 2 ^ 32
    → AreMembers (length groups) (map (claim_of groups) tests) counts
    → (k g : ℕ) → (get_or (map (claim_of groups) tests) k nobody.0).group ≡ Some g
    → g < length (unused_each counts groups)
begun_there threads groups tests counts few members k g e =
    (begun_whole threads groups tests counts few members).members k g e

-- and is seen so
pub begun_seen : (threads : ℕ) (groups : List Group) (tests : List PlanTest) (counts : List ℕ)
    → length counts ≡ length groups
    → seen (unused (length tests) threads) (unused_each counts groups)
    (map (claim_of groups) tests) (replicate (length tests) Waiting) ≡ new_admissions threads groups tests
begun_seen threads groups tests counts all =
    ap (λ l. record {
      threads = threads;
      limits = l;
      claims = map (claim_of groups) tests;
      seats = replicate (length tests) Waiting;
    }) (limits_of counts groups all)
  where
    limits_of : (ns : List ℕ) (gs : List Group) → length ns ≡ length gs
        → map (λ u. u.limit) (unused_each ns gs) ≡ map (λ g. g.limit) gs
    limits_of [] [] e = refl
    limits_of [] (g ∷ gs) e = absurd (omega arith)
    limits_of (n ∷ ns) [] e = absurd (omega arith)
    limits_of (n ∷ ns) (g ∷ gs) e = ap (λ l. g.limit ∷ l) (limits_of ns gs (omega arith))
