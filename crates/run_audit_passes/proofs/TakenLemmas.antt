-- What is taken of the limits, as the seat of one test changes.
use Rattle.std.specs.Prelude.{slice_get}
use Rattle.std.proofs.Common.{◌≡◌, ◌∙◌, ℕ, ◌+◌, nat_eq, nat_le, nat_lt, List, set, sum_by, Option, Some, None, is_some}
use Rattle.std.proofs.Common.{Bool, true, false, ◌&&◌, cond, if◌then◌else◌, option_map, unwrap_or, refl, sym, ap}
use Rattle.std.proofs.Common.{ap₂, true≢false}
use Rattle.std.proofs.Common.{arith}
use Rattle.std.specs.BTreeMap.{BTreeMap, get, is_at}
use Rattle.std.specs.BTreeSet.{contains}
use Rattle.std.specs.Cmp.{unsigned_ties}
use Rattle.std.specs.Cmp.Lexicographic.{slice_cmp, texts_ties}
use Rattle.std.specs.Option.{option_cmp, option_map_or}
use Rattle.std.specs.Ordering.{is_eq, nat_cmp, ordering_then}
use Rattle.std.specs.declared.cmp.Ordering.{Ordering}
use Rattle.std.specs.declared.cmp.Ordering.TheVariants.{Less, Equal, Greater}
use lib.Pointwise.{bytes_decides, pointwise}
use Rattle.std.proofs.lemmas.Bool.{and_from, and_parts}
use Rattle.std.proofs.lemmas.Bool.Decides.{Decides-eqb}
use Rattle.std.proofs.lemmas.Option.{same_Some}
use Rattle.run_events.specs.declared.plan.Group.{Group}
use Rattle.run_events.specs.declared.plan.PlanTest.{PlanTest}
use Rattle.run_laws_events.specs.PlanLimits.{group_named, group_of_plan, is_of_group}
use Rattle.run_audit_machines.specs.Holders.{group_slot_told, is_slot_free, own_group_slot, same_slot, slot_told}
use Rattle.run_audit_machines.specs.Limits.{Seat, Seated, is_same_number, keeps_limit, keeps_own}
use Rattle.run_audit_machines.specs.Limits.{seat_group_weight, seat_weight}
use Rattle.run_audit_machines.specs.Machines.{IsSame}
use Rattle.run_audit_machines.proofs.LimitStepLemmas.{other_sum}
use Rattle.run_audit_machines.proofs.SeatStepLemmas.{sum_set}
use Rattle.run_audit_machines.proofs.SlotLemmas.{same_number}
use Rattle.run_audit_passes.specs.LimitTable.{AreLimits, ChangesAll, ChangesGroups, StandsAlone, TakesAll, TakesGroups}
use Rattle.run_audit_passes.specs.LimitTable.{group_slot_order, held_after, is_free_beside, slot_in_group, sum_in}
use Rattle.run_audit_passes.specs.declared.taken.AllTaken.{AllTaken}
use Rattle.run_audit_passes.specs.declared.taken.GroupsTaken.{GroupsTaken}
use Rattle.run_audit_passes.proofs.HeldLemmas.{free_beside, free_none, held_changed}

-- ---- slots by their orders

number_order : (a b : ℕ) → is_at (nat_cmp a) b ≡ nat_eq a b
number_order a b = sym (unsigned_ties a b)

numbers_same : IsSame nat_eq
numbers_same a b = (λ is. (Decides-eqb a b).0 is, λ is. (Decides-eqb a b).1 is)

then_equal : (a b : Ordering) → is_eq (ordering_then a b) ≡ (is_eq a && is_eq b)
then_equal Less b = refl
then_equal Equal b = refl
then_equal Greater b = refl

option_order : (o q : Option ℕ) → is_eq (option_cmp nat_cmp o q) ≡ is_same_number o q
option_order None None = refl
option_order None (Some b) = refl
option_order (Some a) None = refl
option_order (Some a) (Some b) = sym (unsigned_ties a b)

group_order : (a b : List ℕ × Option ℕ) → is_at (group_slot_order a) b ≡ same_slot a b
group_order a b =
    then_equal (slice_cmp nat_cmp a.0 b.0) (option_cmp nat_cmp a.1 b.1)
    ∙ ap₂ (λ x y. x && y) (sym (texts_ties a.0 b.0)) (option_order a.1 b.1)

slots_same : IsSame same_slot
slots_same a b = (
  λ is. let parts = and_parts (pointwise nat_eq a.0 b.0) (is_same_number a.1 b.1) is in
      ap₂ (λ x y. (x, y)) ((bytes_decides a.0 b.0).0 parts.0) ((same_number a.1 b.1).0 parts.1),
  λ is. and_from (pointwise nat_eq a.0 b.0) (is_same_number a.1 b.1)
      ((bytes_decides a.0 b.0).1 (ap (λ p. p.0) is)) ((same_number a.1 b.1).1 (ap (λ p. p.1) is)),
)

-- ---- of all tests

pub all_changed : (threads : ℕ) (before after : AllTaken) (old new : Seated) (free kept : Bool)
    → after.sum + seat_weight threads old ≡ before.sum + seat_weight threads new
    → free ≡ is_free_beside nat_cmp (contains nat_cmp before.slots) (slot_told old) (slot_told new)
    → ((k : ℕ) → contains nat_cmp after.slots k
    ≡ held_after nat_cmp (contains nat_cmp before.slots) (slot_told old) (slot_told new) k)
    → kept ≡ (free && nat_le after.sum threads) → (seats : List Seated) (place : ℕ)
    → TakesAll threads before seats → StandsAlone nat_eq slot_told seats place old
    → ChangesAll threads after new kept seats place
all_changed threads before after old new free kept sums frees helds is seats place takes own =
    let set_sum = sum_set (seat_weight threads) seats place old new own.there in
    let was = takes.sum_is in
    let sum : after.sum ≡ sum_by (seat_weight threads) (set seats place new) = omega (arith, sums, set_sum, was) in
    record {
      taken = record {
        sum_is = sum;
        held_are = held_changed nat_eq nat_cmp slot_told (contains nat_cmp before.slots)
            (contains nat_cmp after.slots) seats place old new numbers_same number_order takes.held_are own helds;
      };
      right = is ∙ ap₂ (λ a b. a && b)
          (frees ∙ free_beside nat_eq nat_cmp slot_told (contains nat_cmp before.slots) seats place old numbers_same
          number_order takes.held_are own (slot_told new))
          (ap (λ n. nat_le n threads) sum);
    }

-- ---- of those of a group

group_of : (all : List Group) (group : Group) (name : List ℕ) (test : PlanTest) → test.group ≡ Some name
    → group_named name all ≡ Some group → group_of_plan all test.group ≡ Some name
group_of all group name test named first =
    ap (group_of_plan all) named ∙ ap (λ o. if is_some o then Some name else None) first

slot_as : (all : List Group) (name : List ℕ) (test : PlanTest) (seat : Seat)
    → group_of_plan all test.group ≡ Some name → own_group_slot all (test, seat) ≡ slot_in_group name seat
slot_as all name test seat of =
    ap (λ g. if nat_lt seat.finished seat.started then group_slot_told g seat.slots else None) of

own_weight : (name : List ℕ) (limit : ℕ) (test : PlanTest) (seat : Seat) → test.group ≡ Some name
    → seat_group_weight name limit (test, seat) ≡ seat_weight limit (test, seat)
own_weight name limit test seat named =
    ap (λ b. if b then seat_weight limit (test, seat) else 0)
    (ap (λ o. option_map_or (λ own. pointwise nat_eq own name) o false) named ∙ (bytes_decides name name).1 refl)

group_sums : (all : List Group) (group : Group) (name : List ℕ) (test : PlanTest) (before after : GroupsTaken)
    (old new : Seat) (sum : ℕ) → test.group ≡ Some name → group_named name all ≡ Some group
    → sum + seat_weight group.limit (test, old) ≡ sum_in before.sums name + seat_weight group.limit (test, new)
    → ((k : List ℕ) → sum_in after.sums k ≡ cond (pointwise nat_eq name k) sum (sum_in before.sums k))
    → (seats : List Seated) (place : ℕ) → TakesGroups all before seats → slice_get seats place ≡ Some (test, old)
    → sum ≡ sum_by (seat_group_weight name group.limit) (set seats place (test, new))
group_sums all group name test before after old new sum named first sums put seats place takes there =
    let set_sum = sum_set (seat_group_weight name group.limit) seats place (test, old) (test, new) there in
    let was = takes.sums_are name group first in
    let left = own_weight name group.limit test old named in
    let right = own_weight name group.limit test new named in
    omega (arith, sums, set_sum, was, left, right)

each_sum : (all : List Group) (group : Group) (name : List ℕ) (test : PlanTest) (before after : GroupsTaken)
    (old new : Seat) (sum : ℕ) → test.group ≡ Some name → group_named name all ≡ Some group
    → ((k : List ℕ) → sum_in after.sums k ≡ cond (pointwise nat_eq name k) sum (sum_in before.sums k))
    → (seats : List Seated) (place : ℕ) → TakesGroups all before seats → slice_get seats place ≡ Some (test, old)
    → sum ≡ sum_by (seat_group_weight name group.limit) (set seats place (test, new))
    → (n : List ℕ) (g : Group) → group_named n all ≡ Some g
    → sum_in after.sums n ≡ sum_by (seat_group_weight n g.limit) (set seats place (test, new))
each_sum all group name test before after old new sum named first put seats place takes there is n g has =
    put n ∙ by (pointwise nat_eq name n) refl
  where
    by : (b : Bool) → pointwise nat_eq name n ≡ b → cond b sum (sum_in before.sums n)
        ≡ sum_by (seat_group_weight n g.limit) (set seats place (test, new))
    by true same =
        let one = (bytes_decides name n).0 same in
        let two = same_Some group g (sym first ∙ ap (λ x. group_named x all) one ∙ has) in
        is ∙ ap₂ (λ x y. sum_by (seat_group_weight x y.limit) (set seats place (test, new))) one two
    by false other =
        takes.sums_are n g has
        ∙ sym (other_sum n g.limit seats place test old new there
        (ap (λ o. option_map_or (λ own. pointwise nat_eq own n) o false) named ∙ other))

pub group_changed : (all : List Group) (group : Group) (name : List ℕ) (test : PlanTest) (before after : GroupsTaken)
    (old new : Seat) (sum : ℕ) (free kept : Bool) → test.group ≡ Some name → group_named name all ≡ Some group
    → sum + seat_weight group.limit (test, old) ≡ sum_in before.sums name + seat_weight group.limit (test, new)
    → ((k : List ℕ) → sum_in after.sums k ≡ cond (pointwise nat_eq name k) sum (sum_in before.sums k))
    → free ≡ is_free_beside group_slot_order (contains group_slot_order before.slots) (slot_in_group name old)
    (slot_in_group name new)
    → ((k : List ℕ × Option ℕ) → contains group_slot_order after.slots k
    ≡ held_after group_slot_order (contains group_slot_order before.slots) (slot_in_group name old)
    (slot_in_group name new) k)
    → kept ≡ (free && nat_le sum group.limit) → (seats : List Seated) (place : ℕ) → TakesGroups all before seats
    → StandsAlone same_slot (own_group_slot all) seats place (test, old)
    → ChangesGroups all after (test, new) kept seats place
group_changed all group name test before after old new sum free kept named first sums put frees helds is seats place
    takes own =
    let sum_is = group_sums all group name test before after old new sum named first sums put seats place takes
    own.there in
    let of = group_of all group name test named first in
    let left = slot_as all name test old of in
    let right = slot_as all name test new of in
    let held = contains group_slot_order before.slots in
    record {
      taken = record {
        sums_are = each_sum all group name test before after old new sum named first put seats place takes own.there
            sum_is;
        held_are = held_changed same_slot group_slot_order (own_group_slot all) held
            (contains group_slot_order after.slots) seats place (test, old) (test, new) slots_same group_order
            takes.held_are own
            (λ k. helds k ∙ ap₂ (λ o q. held_after group_slot_order held o q k) (sym left) (sym right));
      };
      right = is ∙ ap₂ (λ a b. a && b)
          (frees ∙ ap₂ (is_free_beside group_slot_order held) (sym left) (sym right)
          ∙ free_beside same_slot group_slot_order (own_group_slot all) held seats place (test, old) slots_same
          group_order takes.held_are own (own_group_slot all (test, new)))
          (ap (λ n. nat_le n group.limit) sum_is
          ∙ sym (ap (keeps_limit (set seats place (test, new)) name) first)
          ∙ sym (ap (keeps_own all (set seats place (test, new))) named));
    }

-- what is put is what is taken of the limit of that name
pub sum_put : (before after : BTreeMap (List ℕ) ℕ) (key name : List ℕ) (sum : ℕ) → key ≡ name
    → ((k : List ℕ) → get (slice_cmp nat_cmp) after k
    ≡ cond (is_at (slice_cmp nat_cmp key) k) (Some sum) (get (slice_cmp nat_cmp) before k))
    → (k : List ℕ) → sum_in after k ≡ cond (pointwise nat_eq name k) sum (sum_in before k)
sum_put before after key name sum same put k =
    ap (λ o. unwrap_or o 0) (put k)
    ∙ ap (λ b. unwrap_or (cond b (Some sum) (get (slice_cmp nat_cmp) before k)) 0)
    (sym (texts_ties key k) ∙ ap (λ x. pointwise nat_eq x k) same)
    ∙ by (pointwise nat_eq name k)
  where
    by : (b : Bool) → unwrap_or (cond b (Some sum) (get (slice_cmp nat_cmp) before k)) 0
        ≡ cond b sum (sum_in before k)
    by true = refl
    by false = refl

-- what is found of a name, and what group has it
pub no_limit : (all : List Group) (limits : BTreeMap (List ℕ) ℕ) (name : List ℕ) → AreLimits all limits
    → get (slice_cmp nat_cmp) limits name ≡ None → group_named name all ≡ None
no_limit all limits name are none = by (group_named name all) (sym (are name) ∙ none)
  where
    by : (o : Option Group) → option_map (λ g. g.limit) o ≡ None → o ≡ None
    by None is = refl
    by (Some g) is = absurd (true≢false (ap is_some is))

pub limit_there : (all : List Group) (limits : BTreeMap (List ℕ) ℕ) (name : List ℕ) (limit : ℕ)
    → AreLimits all limits → get (slice_cmp nat_cmp) limits name ≡ Some limit
    → (g : Group) × (group_named name all ≡ Some g) × (g.limit ≡ limit)
limit_there all limits name limit are there = by (group_named name all) refl (sym (are name) ∙ there)
  where
    by : (o : Option Group) → group_named name all ≡ o → option_map (λ g. g.limit) o ≡ Some limit
        → (g : Group) × (group_named name all ≡ Some g) × (g.limit ≡ limit)
    by None has is = absurd (true≢false (ap is_some (sym is)))
    by (Some g) has is = (g, has, same_Some g.limit limit is)

-- ---- of a test that is of no group of the plan

pub record IsOfNone (all : List Group) (test : PlanTest) : Type 0 where
  pub none : group_of_plan all test.group ≡ None
  pub other : (n : List ℕ) (g : Group) → group_named n all ≡ Some g → is_of_group n test ≡ false
  pub kept : (seats : List Seated) → keeps_own all seats test.group ≡ true

pub of_none : (all : List Group) (test : PlanTest) → test.group ≡ None → IsOfNone all test
of_none all test is = record {
  none = ap (group_of_plan all) is;
  other = λ n g has. ap (λ o. option_map_or (λ own. pointwise nat_eq own n) o false) is;
  kept = λ seats. ap (keeps_own all seats) is;
}

pub of_no_plan : (all : List Group) (test : PlanTest) (name : List ℕ) → test.group ≡ Some name
    → group_named name all ≡ None → IsOfNone all test
of_no_plan all test name named missing = record {
  none = ap (group_of_plan all) named ∙ ap (λ o. if is_some o then Some name else None) missing;
  other = λ n g has. ap (λ o. option_map_or (λ own. pointwise nat_eq own n) o false) named
      ∙ by n g has (pointwise nat_eq name n) refl;
  kept = λ seats. ap (keeps_own all seats) named ∙ ap (keeps_limit seats name) missing;
}
  where
    by : (n : List ℕ) (g : Group) → group_named n all ≡ Some g → (b : Bool) → pointwise nat_eq name n ≡ b → b ≡ false
    by n g has true same = absurd (true≢false (ap is_some (sym has
        ∙ ap (λ x. group_named x all) (sym ((bytes_decides name n).0 same)) ∙ missing)))
    by n g has false other = refl

no_slot : (all : List Group) (test : PlanTest) (seat : Seat) → group_of_plan all test.group ≡ None
    → own_group_slot all (test, seat) ≡ None
no_slot all test seat none =
    ap (λ g. if nat_lt seat.finished seat.started then group_slot_told g seat.slots else None) none
    ∙ by (nat_lt seat.finished seat.started)
  where
    by : (b : Bool) → (if b then group_slot_told None seat.slots else None) ≡ None
    by true = refl
    by false = refl

pub none_changed : (all : List Group) (test : PlanTest) (taken : GroupsTaken) (old new : Seat) → IsOfNone all test
    → (seats : List Seated) (place : ℕ) → TakesGroups all taken seats
    → StandsAlone same_slot (own_group_slot all) seats place (test, old)
    → ChangesGroups all taken (test, new) true seats place
none_changed all test taken old new of seats place takes own =
    let held = contains group_slot_order taken.slots in
    let left = no_slot all test old of.none in
    let right = no_slot all test new of.none in
    record {
      taken = record {
        sums_are = λ n g has. takes.sums_are n g has
            ∙ sym (other_sum n g.limit seats place test old new own.there (of.other n g has));
        held_are = held_changed same_slot group_slot_order (own_group_slot all) held held seats place (test, old)
            (test, new) slots_same group_order takes.held_are own
            (λ k. ap₂ (λ o q. held_after group_slot_order held o q k) (sym left) (sym right));
      };
      right = ap₂ (λ a b. a && b)
          (sym (free_none same_slot (own_group_slot all) seats place)
          ∙ ap (λ o. is_slot_free same_slot (own_group_slot all) o place seats) (sym right))
          (sym (of.kept (set seats place (test, new))));
    }
