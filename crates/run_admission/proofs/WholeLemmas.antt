-- The limits of a sub-run, as a test is skipped, runs and is released.
use Rattle.std.proofs.Common.{◌≡◌, ◌≢◌, ℕ, zero, suc, ◌<◌, ◌==◌, List, [], ◌∷◌, length, get_or, set}
use Rattle.std.proofs.Common.{Bool, true, false, if◌then◌else◌, Option, Some, None, is_some, refl, ap, sym, subst, ◌∙◌}
use Rattle.std.proofs.Common.{arith}
use Rattle.std.proofs.Common.{count_by, slice_get, ◌⊎◌, inl, inr, get_or-set_other}
use Rattle.std.proofs.Math.ListN.{length-set}
use Rattle.std.specs.Option.{option_map_or}
use Rattle.std.specs.List.{zip}
use Rattle.std.proofs.lemmas.Grind.{get_or-set_at}
use Rattle.std.proofs.lemmas.Option.{same_Some, slice_get-get_or}
use Rattle.run_admission.specs.declared.seat.Claim.{Claim}
use Rattle.run_admission.specs.declared.seat.Seat.{Seat}
use Rattle.run_admission.specs.declared.seat.Seat.TheVariants.{Waiting, InUse, Gone}
use Rattle.run_admission.specs.InUse.{taken, taken_in, slot_of, slot_in, is_of, is_waiting, seat_group_slot}
use Rattle.run_admission.specs.Kept.{Use, IsWhole, IsOfGroup, IsSeated, CanTake, CanGive, nobody, free_in}
use Rattle.run_admission.specs.Kept.{free_within, take_of, take_in, give_back, give_in}
use Rattle.run_admission.proofs.ListLemmas.{zip_set, length_zip, get_or_zip}
use Rattle.run_admission.proofs.GroupLemmas.{free_is, take_is, give_is}
use Rattle.run_admission.proofs.WaitLemmas.{none_fewer}
use Rattle.run_admission.proofs.TestLemmas.{stays, takes, gives, may_give}

-- what stands at a place, after one was set
set_found : {X : Type 0} (xs : List X) (i j : ℕ) (x y : X) → slice_get (set xs i y) j ≡ Some x
    → ((j ≡ i) × (y ≡ x)) ⊎ ((j ≢ i) × (slice_get xs j ≡ Some x))
set_found [] i j x y e = cc
set_found (z ∷ zs) zero zero x y e = inl (refl, same_Some y x e)
set_found (z ∷ zs) zero (suc j) x y e = inr (λ e. absurd (omega arith), e)
set_found (z ∷ zs) (suc i) zero x y e = inr (λ e. absurd (omega arith), e)
set_found (z ∷ zs) (suc i) (suc j) x y e =
    elim (set_found zs i j x y e)
    [ inl p ↦ inl (ap (λ n. suc n) p.0, p.1) | inr p ↦ inr (λ e. p.0 (omega arith), p.1) ]

-- the limit of a group that is there
pub limit_at : (us : List Use) (g : ℕ) → g < length us → (u : Use) × (slice_get us g ≡ Some u)
limit_at us g h =
    let none : Use = record { limit = 0; used = 0; holders = [] } in (get_or us g none, slice_get-get_or us g none h)

-- a test of a group is of no other
of_none : (g : ℕ) (o : Option ℕ) → o ≡ None → option_map_or (λ h. h == g) o false ≡ false
of_none g o e = ap (λ o. option_map_or (λ h. h == g) o false) e

pub of_same : (g h : ℕ) (o : Option ℕ) → o ≡ Some h → g ≡ h → option_map_or (λ h. h == g) o false ≡ true
of_same g h o e same = ap (λ o. option_map_or (λ h. h == g) o false) e ∙ grind (arith, same)

of_other : (g h : ℕ) (o : Option ℕ) → o ≡ Some h → g ≢ h → option_map_or (λ h. h == g) o false ≡ false
of_other g h o e apart = ap (λ o. option_map_or (λ h. h == g) o false) e ∙ grind (arith, apart)

-- a test that moves leaves the limits of other groups as they are
group_stays : (g : ℕ) (u : Use) (claims : List Claim) (seats : List Seat) (k : ℕ) (s : Seat)
    → length claims ≡ length seats
    → k < length seats → is_of g (get_or claims k nobody.0) ≡ false → IsOfGroup g u (zip claims seats)
    → IsOfGroup g u (zip claims (set seats k s))
group_stays g u claims seats k s same inside other kept =
    let claim = get_or claims k nobody.0 in
    let was = get_or seats k Waiting in
    stays u (taken_in g u.limit) (slot_in g) claims seats k s same inside
    (ap (λ b. if b then taken u.limit (claim, was) else 0) other
    ∙ sym (ap (λ b. if b then taken u.limit (claim, s) else 0) other))
    (ap (λ b. if b then seat_group_slot was else None) other
    ∙ sym (ap (λ b. if b then seat_group_slot s else None) other))
    kept

-- how many groups there are stays
pub length_take_in : (us : List Use) (o : Option ℕ) (k w : ℕ) → length (take_in us o k w) ≡ length us
length_take_in us None k w = refl
length_take_in us (Some g) k w = by_place (slice_get us g)
  where
    by_place : (o : Option Use) → length (option_map_or (λ u. set us g (take_of u k w)) o us) ≡ length us
    by_place None = refl
    by_place (Some u) = length-set us g (take_of u k w)

pub length_give_in : (us : List Use) (o m : Option ℕ) (w : ℕ) → length (give_in us o m w) ≡ length us
length_give_in us None m w = refl
length_give_in us (Some g) None w = refl
length_give_in us (Some g) (Some n) w = by_place (slice_get us g)
  where
    by_place : (o : Option Use) → length (option_map_or (λ u. set us g (give_back u n w)) o us) ≡ length us
    by_place None = refl
    by_place (Some u) = length-set us g (give_back u n w)

-- a group has as many slots as before
as_many_taken : {many : ℕ → ℕ} (g : ℕ) (u : Use) (us : List Use) (o : Option ℕ) (k w : ℕ)
    → ((h : ℕ) → o ≡ Some h → h < length us)
    → ((h : ℕ) (v : Use) → slice_get us h ≡ Some v → length v.holders ≡ many h)
    → slice_get (take_in us o k w) g ≡ Some u → length u.holders ≡ many g
as_many_taken g u us None k w there old e = old g u e
as_many_taken {many = many} g u us (Some h) k w there old e =
    let v = limit_at us h (there h refl) in
    elim (set_found us h g u (take_of v.0 k w) (sym (ap (λ l. slice_get l g) (take_is us h k w v.0 v.1)) ∙ e)) [
      | inl p ↦ subst (λ u. length u.holders ≡ many g) p.1
          (length-set v.0.holders (free_in v.0) (Some k) ∙ old h v.0 v.1 ∙ ap many (sym p.0))
      | inr p ↦ old g u p.1
    ]

as_many_given : {many : ℕ → ℕ} (g : ℕ) (u : Use) (us : List Use) (o m : Option ℕ) (w : ℕ)
    → ((h : ℕ) → o ≡ Some h → h < length us)
    → ((h : ℕ) (v : Use) → slice_get us h ≡ Some v → length v.holders ≡ many h)
    → slice_get (give_in us o m w) g ≡ Some u → length u.holders ≡ many g
as_many_given g u us None m w there old e = old g u e
as_many_given g u us (Some h) None w there old e = old g u e
as_many_given {many = many} g u us (Some h) (Some n) w there old e =
    let v = limit_at us h (there h refl) in
    elim (set_found us h g u (give_back v.0 n w) (sym (ap (λ l. slice_get l g) (give_is us h n w v.0 v.1)) ∙ e)) [
      | inl p ↦ subst (λ u. length u.holders ≡ many g) p.1
          (length-set v.0.holders n None ∙ old h v.0 v.1 ∙ ap many (sym p.0))
      | inr p ↦ old g u p.1
    ]

-- each test's slot fits its group, after one moved to a seat that does
seated_after : (claims : List Claim) (seats : List Seat) (k : ℕ) (s : Seat) → length claims ≡ length seats
    → k < length seats → ((j : ℕ) → IsSeated (get_or (zip claims seats) j nobody))
    → IsSeated (get_or claims k nobody.0, s) → (j : ℕ) → IsSeated (get_or (zip claims (set seats k s)) j nobody)
seated_after claims seats k s same inside all new j =
    subst (λ ts. IsSeated (get_or ts j nobody)) (sym (zip_set claims seats k nobody.0 s (omega arith)))
    (by_place (j == k) refl)
  where
    by_place : (b : Bool) → (j == k) ≡ b
        → IsSeated (get_or (set (zip claims seats) k (get_or claims k nobody.0, s)) j nobody)
    by_place true e =
        let is : j ≡ k = grind arith in
        subst IsSeated
        (sym (get_or-set_at (zip claims seats) k j (get_or claims k nobody.0, s) nobody is
        (omega (arith, length_zip claims seats same))))
        new
    by_place false e =
        let apart : j ≢ k = grind arith in
        subst IsSeated (sym (get_or-set_other (zip claims seats) k j (get_or claims k nobody.0, s) nobody apart))
        (all j)

-- a test is skipped
pub skip_whole : (waiting next : ℕ) (whole : Use) (us : List Use) (claims : List Claim) (seats : List Seat) (k : ℕ)
    → IsWhole waiting whole us claims seats → k < length seats → get_or seats k Waiting ≡ Waiting
    → next ≡ count_by is_waiting (set seats k Gone) → IsWhole next whole us claims (set seats k Gone)
skip_whole waiting next whole us claims seats k w inside waits is = record {
  few = omega (arith, w.few, length-set seats k Gone);
  paired = omega (arith, w.paired, length-set seats k Gone);
  waits = is;
  all = stays whole (taken whole.limit) slot_of claims seats k Gone w.paired inside
      (ap (λ s. taken whole.limit (claim, s)) waits) (ap (λ s. slot_of (claim, s)) waits) w.all;
  groups = λ g u e. stays u (taken_in g u.limit) (slot_in g) claims seats k Gone w.paired inside
      (ap (λ s. taken_in g u.limit (claim, s)) waits) (ap (λ s. slot_in g (claim, s)) waits) (w.groups g u e);
  slots = w.slots ∙ sym (length-set seats k Gone);
  places = w.places;
  members = w.members;
  seated = seated_after claims seats k Gone w.paired inside w.seated (λ e. absurd_seat e);
}
  where
    claim : Claim
    claim = get_or claims k nobody.0

    absurd_seat : false ≡ true → is_some (seat_group_slot Gone) ≡ is_some (get_or claims k nobody.0).group
    absurd_seat e = cc

-- a test that can run: it waits, and there is room for it
pub record CanRun (whole : Use) (us : List Use) (claims : List Claim) (seats : List Seat) (k : ℕ) : Type 0 where
  pub inside : k < length seats
  pub waits : get_or seats k Waiting ≡ Waiting
  pub matched : (get_or claims k nobody.0).matched ≡ true
  pub can : CanTake whole (get_or claims k nobody.0).weight
  pub cans : (g : ℕ) (u : Use) → (get_or claims k nobody.0).group ≡ Some g → slice_get us g ≡ Some u
      → CanTake u (get_or claims k nobody.0).weight

-- the limit of the group of a test that runs, and of another group
group_run : (g n : ℕ) (m : Option ℕ) (u : Use) (us : List Use) (claims : List Claim) (seats : List Seat) (k : ℕ)
    (o : Option ℕ)
    → length claims ≡ length seats → k < length seats → get_or seats k Waiting ≡ Waiting
    → (get_or claims k nobody.0).group ≡ o
    → ((h : ℕ) → o ≡ Some h → h < length us) → m ≡ free_within us o
    → ((h : ℕ) (v : Use) → o ≡ Some h → slice_get us h ≡ Some v → CanTake v (get_or claims k nobody.0).weight)
    → ((h : ℕ) (v : Use) → slice_get us h ≡ Some v → IsOfGroup h v (zip claims seats))
    → slice_get (take_in us o k (get_or claims k nobody.0).weight) g ≡ Some u
    → IsOfGroup g u (zip claims (set seats k (InUse n m)))
group_run g n m u us claims seats k None same inside waits of there slot cans old e =
    group_stays g u claims seats k (InUse n m) same inside (of_none g _ of) (old g u e)
group_run g n m u us claims seats k (Some h) same inside waits of there slot cans old e =
    elim (set_found us h g u (take_of v.0 k claim.weight)
    (sym (ap (λ l. slice_get l g) (take_is us h k claim.weight v.0 v.1)) ∙ e)) [
      | inl p ↦ subst (λ u. IsOfGroup g u (zip claims (set seats k (InUse n m)))) p.1 (mine p.0)
      | inr p ↦ group_stays g u claims seats k (InUse n m) same inside (of_other g h _ of p.0) (old g u p.1)
    ]
  where
    claim : Claim
    claim = get_or claims k nobody.0

    v : (u : Use) × (slice_get us h ≡ Some u)
    v = limit_at us h (there h refl)

    mine : g ≡ h → IsOfGroup g (take_of v.0 k (get_or claims k nobody.0).weight) (zip claims (set seats k (InUse n m)))
    mine is =
        takes v.0 (taken_in g v.0.limit) (slot_in g) claims seats k claim.weight (InUse n m) same inside refl refl
        (ap (λ b. if b then taken v.0.limit (claim, get_or seats k Waiting) else 0) of_it
        ∙ ap (λ s. taken v.0.limit (claim, s)) waits)
        (ap (λ b. if b then seat_group_slot (get_or seats k Waiting) else None) of_it ∙ ap seat_group_slot waits)
        (ap (λ b. if b then taken v.0.limit (claim, InUse n m) else 0) of_it)
        (ap (λ b. if b then m else None) of_it ∙ slot ∙ free_is us h v.0 v.1)
        (cans h v.0 refl v.1)
        (old g v.0 (ap (slice_get us) is ∙ v.1))
      where
        of_it : is_of g (get_or claims k nobody.0) ≡ true
        of_it = of_same g h _ of is

-- a test that has a slot within its group where it has a group
seat_of : (us : List Use) (o : Option ℕ) → ((h : ℕ) → o ≡ Some h → h < length us)
    → is_some (free_within us o) ≡ is_some o
seat_of us None there = refl
seat_of us (Some h) there =
    let v = limit_at us h (there h refl) in ap is_some (free_is us h v.0 v.1)

-- a test runs
pub run_whole : (waiting next : ℕ) (whole : Use) (us : List Use) (claims : List Claim) (seats : List Seat) (k n : ℕ)
    (m : Option ℕ)
    → IsWhole waiting whole us claims seats → CanRun whole us claims seats k → n ≡ free_in whole
    → m ≡ free_within us (get_or claims k nobody.0).group
    → next ≡ count_by is_waiting (set seats k (InUse n m))
    → IsWhole next (take_of whole k (get_or claims k nobody.0).weight)
    (take_in us (get_or claims k nobody.0).group k (get_or claims k nobody.0).weight) claims (set seats k (InUse n m))
run_whole waiting next whole us claims seats k n m w can slot slot_within is = record {
  few = omega (arith, w.few, length-set seats k (InUse n m));
  paired = omega (arith, w.paired, length-set seats k (InUse n m));
  waits = is;
  all = takes whole (taken whole.limit) slot_of claims seats k claim.weight (InUse n m) w.paired can.inside refl refl
      (ap (λ s. taken whole.limit (claim, s)) can.waits) (ap (λ s. slot_of (claim, s)) can.waits) refl
      (ap (λ n. Some n) slot) can.can w.all;
  groups = λ g u e. group_run g n m u us claims seats k claim.group w.paired can.inside can.waits refl (w.members k)
      slot_within
      can.cans w.groups e;
  slots =
      length-set whole.holders (free_in whole) (Some k) ∙ w.slots ∙ sym (length-set seats k (InUse n m));
  places = λ g u e. as_many_taken g u us claim.group k claim.weight (w.members k) w.places e;
  members = λ j g e. omega (arith, w.members j g e, length_take_in us claim.group k claim.weight);
  seated = seated_after claims seats k (InUse n m) w.paired can.inside w.seated
      (λ e. ap is_some slot_within ∙ seat_of us claim.group (w.members k));
}
  where
    claim : Claim
    claim = get_or claims k nobody.0

-- a test that is in use, in these slots, can give back
pub record CanLeave (whole : Use) (us : List Use) (claims : List Claim) (seats : List Seat) (k n : ℕ) (m : Option ℕ)
    : Type 0 where
  pub inside : k < length seats
  pub used : get_or seats k Waiting ≡ InUse n m
  pub can : CanGive whole n (get_or claims k nobody.0).weight
  pub cans : (g j : ℕ) (u : Use) → (get_or claims k nobody.0).group ≡ Some g → m ≡ Some j → slice_get us g ≡ Some u
      → CanGive u j (get_or claims k nobody.0).weight

pub can_leave : (waiting : ℕ) (whole : Use) (us : List Use) (claims : List Claim) (seats : List Seat) (k n : ℕ)
    (m : Option ℕ)
    → IsWhole waiting whole us claims seats → k < length seats → get_or seats k Waiting ≡ InUse n m
    → CanLeave whole us claims seats k n m
can_leave waiting whole us claims seats k n m w inside used = record {
  inside = inside;
  used = used;
  can = may_give whole (taken whole.limit) slot_of claims seats k n claim.weight w.paired inside refl refl
      (ap (λ s. taken whole.limit (claim, s)) used) (ap (λ s. slot_of (claim, s)) used) w.all;
  cans = λ g j u of slot e.
      may_give u (taken_in g u.limit) (slot_in g) claims seats k j claim.weight w.paired inside refl refl
      (ap (λ b. if b then taken u.limit (claim, get_or seats k Waiting) else 0) (of_same g g _ of refl)
      ∙ ap (λ s. taken u.limit (claim, s)) used)
      (ap (λ b. if b then seat_group_slot (get_or seats k Waiting) else None) (of_same g g _ of refl)
      ∙ ap seat_group_slot used ∙ slot)
      (w.groups g u e);
}
  where
    claim : Claim
    claim = get_or claims k nobody.0

-- the limit of the group of a test that is released, and of another group
group_release : (g n : ℕ) (m : Option ℕ) (u : Use) (us : List Use) (claims : List Claim) (seats : List Seat) (k : ℕ)
    (o : Option ℕ) → length claims ≡ length seats → k < length seats → get_or seats k Waiting ≡ InUse n m
    → (get_or claims k nobody.0).group ≡ o → is_some m ≡ is_some o
    → ((h : ℕ) → o ≡ Some h → h < length us)
    → ((h j : ℕ) (v : Use) → o ≡ Some h → m ≡ Some j → slice_get us h ≡ Some v
    → CanGive v j (get_or claims k nobody.0).weight)
    → ((h : ℕ) (v : Use) → slice_get us h ≡ Some v → IsOfGroup h v (zip claims seats))
    → slice_get (give_in us o m (get_or claims k nobody.0).weight) g ≡ Some u
    → IsOfGroup g u (zip claims (set seats k Gone))
group_release g n m u us claims seats k None same inside used of seated there cans old e =
    group_stays g u claims seats k Gone same inside (of_none g _ of) (old g u e)
group_release g n None u us claims seats k (Some h) same inside used of seated there cans old e = cc
group_release g n (Some j) u us claims seats k (Some h) same inside used of seated there cans old e =
    elim (set_found us h g u (give_back v.0 j claim.weight)
    (sym (ap (λ l. slice_get l g) (give_is us h j claim.weight v.0 v.1)) ∙ e)) [
      | inl p ↦ subst (λ u. IsOfGroup g u (zip claims (set seats k Gone))) p.1 (mine p.0)
      | inr p ↦ group_stays g u claims seats k Gone same inside (of_other g h _ of p.0) (old g u p.1)
    ]
  where
    claim : Claim
    claim = get_or claims k nobody.0

    v : (u : Use) × (slice_get us h ≡ Some u)
    v = limit_at us h (there h refl)

    mine : g ≡ h → IsOfGroup g (give_back v.0 j (get_or claims k nobody.0).weight) (zip claims (set seats k Gone))
    mine is =
        gives v.0 (taken_in g v.0.limit) (slot_in g) claims seats k j claim.weight Gone same inside refl refl
        (ap (λ b. if b then taken v.0.limit (claim, get_or seats k Waiting) else 0) of_it
        ∙ ap (λ s. taken v.0.limit (claim, s)) used)
        (ap (λ b. if b then seat_group_slot (get_or seats k Waiting) else None) of_it ∙ ap seat_group_slot used)
        (ap (λ b. if b then taken v.0.limit (claim, Gone) else 0) of_it)
        (ap (λ b. if b then None else None) of_it)
        (cans h j v.0 refl refl v.1)
        (old g v.0 (ap (slice_get us) is ∙ v.1))
      where
        of_it : is_of g (get_or claims k nobody.0) ≡ true
        of_it = of_same g h _ of is

-- a test is released
pub release_whole : (waiting : ℕ) (whole : Use) (us : List Use) (claims : List Claim) (seats : List Seat) (k n : ℕ)
    (m : Option ℕ)
    → IsWhole waiting whole us claims seats → CanLeave whole us claims seats k n m
    → IsWhole waiting (give_back whole n (get_or claims k nobody.0).weight)
    (give_in us (get_or claims k nobody.0).group m (get_or claims k nobody.0).weight) claims (set seats k Gone)
release_whole waiting whole us claims seats k n m w can = record {
  few = omega (arith, w.few, length-set seats k Gone);
  paired = omega (arith, w.paired, length-set seats k Gone);
  waits = w.waits ∙ sym (none_fewer seats k Gone can.inside (ap is_waiting can.used) refl);
  all = gives whole (taken whole.limit) slot_of claims seats k n claim.weight Gone w.paired can.inside refl refl
      (ap (λ s. taken whole.limit (claim, s)) can.used) (ap (λ s. slot_of (claim, s)) can.used) refl refl can.can w.all;
  groups = λ g u e. group_release g n m u us claims seats k claim.group w.paired can.inside can.used refl seated
      (w.members k)
      can.cans w.groups e;
  slots = length-set whole.holders n None ∙ w.slots ∙ sym (length-set seats k Gone);
  places = λ g u e. as_many_given g u us claim.group m claim.weight (w.members k) w.places e;
  members = λ j g e. omega (arith, w.members j g e, length_give_in us claim.group m claim.weight);
  seated = seated_after claims seats k Gone w.paired can.inside w.seated (λ e. absurd_seat e);
}
  where
    claim : Claim
    claim = get_or claims k nobody.0

    absurd_seat : false ≡ true → is_some (seat_group_slot Gone) ≡ is_some (get_or claims k nobody.0).group
    absurd_seat e = cc

    here : get_or (zip claims seats) k nobody ≡ (get_or claims k nobody.0, InUse n m)
    here =
        get_or_zip claims seats k nobody.0 Waiting nobody (omega (arith, w.paired, can.inside)) can.inside
        ∙ ap (λ s. (get_or claims k nobody.0, s)) can.used

    seated : is_some m ≡ is_some (get_or claims k nobody.0).group
    seated = subst IsSeated here (w.seated k) refl
