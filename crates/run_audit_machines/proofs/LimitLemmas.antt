-- The machine of limits accepts just the events that keep their law, and leads to an end.
use Rattle.std.proofs.Common.{◌≡◌, ◌∙◌, ℕ, zero, suc, ◌+◌, ◌≤◌, nat_le, min, List, [], ◌∷◌, ◌++◌}
use Rattle.std.proofs.Common.{map, take, fold, sum_by, cond, Option, Some, None, is_some, Bool}
use Rattle.std.proofs.Common.{true, false, if◌then◌else◌, refl, sym, ap, subst, true≢false, arith}
use Rattle.std.proofs.Common.{leb-true, le-leb}
use Rattle.std.proofs.Common.{nat_eq}
use Rattle.std.specs.List.{All, find, list_all}
use lib.Pointwise.{bytes_decides, pointwise}
use Rattle.std.proofs.lemmas.Bool.{and_from, and_parts}
use Rattle.std.proofs.lemmas.List.Elements.{All-nil}
use Rattle.std.proofs.lemmas.Option.{same_Some}
use Rattle.run_events.specs.declared.plan.Group.{Group}
use Rattle.run_events.specs.declared.plan.PlanTest.{PlanTest}
use Rattle.run_events.specs.declared.plan.TestSlotAssignment.{TestSlotAssignment}
use Rattle.run_events.specs.declared.settings.Settings.{Settings}
use Rattle.run_laws_events.specs.PlanLimits.{group_named, is_of_group}
use Rattle.run_audit_model.specs.Parts.{is_stress, parts}
use Rattle.run_audit_model.specs.Places.{Completes}
use Rattle.run_audit_model.specs.SeenLimits.{KeepsSeenLimits, KeepsTold, RunsIn, SlotsDiffer}
use Rattle.run_audit_model.specs.SeenLimits.{seen_group_weight}
use Rattle.run_audit_model.specs.SeenLimits.{seen_weight}
use Rattle.run_audit_model.specs.declared.audit_event.AuditEvent.{AuditEvent}
use Rattle.run_audit_machines.specs.Limits.{Seated, SeatsNow, are_apart, seat_group_weight, keeps_seats}
use Rattle.run_audit_machines.specs.Limits.{keeps_limit, limit_machine, limit_part, may_seat, no_seats}
use Rattle.run_audit_machines.specs.Limits.{seen_seats_after, seat_weight}
use Rattle.run_audit_machines.specs.Machines.{HoldsInParts, InParts, PartCompletes, StaysWithin, first_state, endless}
use Rattle.run_audit_machines.specs.Machines.{AcceptsJust}
use Rattle.run_audit_machines.proofs.MachineLemmas.{AllowsEach, end_from, guard_from, guard_to, same_head}
use Rattle.run_audit_machines.proofs.RunLemmas.{endless_completes, ever_just}
use Rattle.run_audit_machines.proofs.SeatLemmas.{runs_as, seated_by, seats_are, seats_by}
use Rattle.run_audit_machines.proofs.SlotLemmas.{apart_from, apart_to, slots_from, slots_to}

-- ---- what holds after each event, event by event

holds_each : {G E : Type 0} (after : G → E → G) (holds : G → Bool) (g : G) (es : List E) → holds g ≡ true
    → AllowsEach after (λ g e. holds (after g e)) g es → (n : ℕ) → holds (fold after g (take n es)) ≡ true
holds_each after holds g es first h zero = first
holds_each after holds g [] first h (suc n) = first
holds_each after holds g (e ∷ es) first h (suc n) =
    holds_each after holds (after g e) es (h [] es e refl)
    (λ before rest x is. h (e ∷ before) rest x (ap (λ l. e ∷ l) is)) n

each_holds : {G E : Type 0} (after : G → E → G) (holds : G → Bool) (g : G) (es : List E)
    → ((n : ℕ) → holds (fold after g (take n es)) ≡ true) → AllowsEach after (λ g e. holds (after g e)) g es
each_holds after holds g [] h [] rest x is = cc
each_holds after holds g [] h (y ∷ before) rest x is = cc
each_holds after holds g (e ∷ es) h [] rest x is =
    subst (λ z. holds (after g z) ≡ true) (same_head e x es rest is).0 (h 1)
each_holds after holds g (e ∷ es) h (y ∷ before) rest x is =
    let same = same_head e y es (before ++ x ∷ rest) is in
    subst (λ z. holds (after (fold after (after g z) before) x) ≡ true) same.0
    (each_holds after holds (after g e) es (λ n. h (suc n)) before rest x same.1)

-- ---- what they take of the limits

weight_as : (events : List AuditEvent) (limit : ℕ) (test : PlanTest)
    → seat_weight limit (seated_by events test) ≡ seen_weight events limit test
weight_as events limit test = ap (λ b. if b then min test.weight limit else 0) (runs_as events test)

group_weight_as : (events : List AuditEvent) (name : List ℕ) (limit : ℕ) (test : PlanTest)
    → seat_group_weight name limit (seated_by events test) ≡ seen_group_weight events name limit test
group_weight_as events name limit test =
    ap (λ n. if is_of_group name test then n else 0) (weight_as events limit test)

sum_from : (f : Seated → ℕ) (g : PlanTest → ℕ) (h : PlanTest → Seated) → ((t : PlanTest) → f (h t) ≡ g t) → (a : ℕ)
    (tests : List PlanTest) → fold (λ a x. a + f x) a (map h tests) ≡ fold (λ a x. a + g x) a tests
sum_from f g h same a [] = refl
sum_from f g h same a (t ∷ tests) =
    ap (λ n. fold (λ a x. a + f x) (a + n) (map h tests)) (same t) ∙ sum_from f g h same (a + g t) tests

sum_as : (events : List AuditEvent) (limit : ℕ) (tests : List PlanTest)
    → sum_by (seat_weight limit) (map (seated_by events) tests) ≡ sum_by (seen_weight events limit) tests
sum_as events limit tests =
    sum_from (seat_weight limit) (seen_weight events limit) (seated_by events) (weight_as events limit) 0 tests

group_sum_as : (events : List AuditEvent) (name : List ℕ) (limit : ℕ) (tests : List PlanTest)
    → sum_by (seat_group_weight name limit) (map (seated_by events) tests)
    ≡ sum_by (seen_group_weight events name limit) tests
group_sum_as events name limit tests = sum_from (seat_group_weight name limit) (seen_group_weight events name limit)
    (seated_by events) (group_weight_as events name limit) 0 tests

-- what is found of some that all pass
pub all_found : {X : Type 0} (passes test : X → Bool) (xs : List X) (x : X) → list_all passes xs ≡ true
    → find test xs ≡ Some x → (passes x ≡ true) × (test x ≡ true)
all_found passes test [] x all is = absurd (true≢false (ap is_some (sym is)))
all_found passes test (y ∷ xs) x all is =
    let parts = and_parts (passes y) (list_all passes xs) all in
    by_test (test y) refl parts.0 is (all_found passes test xs x parts.1)
  where
    by_test : (b : Bool) → test y ≡ b → passes y ≡ true → cond b (Some y) (find test xs) ≡ Some x
        → (find test xs ≡ Some x → (passes x ≡ true) × (test x ≡ true)) → (passes x ≡ true) × (test x ≡ true)
    by_test true found own at more = let same = same_Some y x at in
        (subst (λ z. passes z ≡ true) same own, subst (λ z. test z ≡ true) same found)
    by_test false found own at more = more at

all_pass : {X : Type 0} (passes : X → Bool) → ((x : X) → passes x ≡ true) → (xs : List X) → list_all passes xs ≡ true
all_pass passes h [] = refl
all_pass passes h (x ∷ xs) = and_from (passes x) (list_all passes xs) (h x) (all_pass passes h xs)

abbrev KeepsGroups : Settings → List Seated → Type 0
KeepsGroups p seats = (name : List ℕ) (group : Group) → group_named name p.plan.groups ≡ Some group
    → sum_by (seat_group_weight name group.limit) seats ≤ group.limit

groups_to : (p : Settings) (seats : List Seated)
    → list_all (λ group. keeps_limit seats group.name (group_named group.name p.plan.groups)) p.plan.groups ≡ true
    → KeepsGroups p seats
groups_to p seats all name group named =
    let found = all_found (λ group. keeps_limit seats group.name (group_named group.name p.plan.groups))
    (λ group. pointwise nat_eq group.name name) p.plan.groups group all named in
    let same = (bytes_decides group.name name).0 found.1 in
    let kept = subst (λ n. keeps_limit seats n (group_named n p.plan.groups) ≡ true) same found.0 in
    leb-true (sum_by (seat_group_weight name group.limit) seats) group.limit
    (subst (λ o. keeps_limit seats name o ≡ true) named kept)

groups_from : (p : Settings) (seats : List Seated) → KeepsGroups p seats
    → list_all (λ group. keeps_limit seats group.name (group_named group.name p.plan.groups)) p.plan.groups ≡ true
groups_from p seats h = all_pass (λ group. keeps_limit seats group.name (group_named group.name p.plan.groups))
    (λ g. by_first g.name (group_named g.name p.plan.groups) refl) p.plan.groups
  where
    by_first : (name : List ℕ) (o : Option Group) → group_named name p.plan.groups ≡ o → keeps_limit seats name o ≡ true
    by_first name None is = refl
    by_first name (Some group) is =
        le-leb (sum_by (seat_group_weight name group.limit) seats) group.limit (h name group is)

-- ---- both

kept_to : (p : Settings) (events : List AuditEvent) → keeps_seats (seats_by p events) ≡ true
    → KeepsSeenLimits p events × SlotsDiffer p events
kept_to p events is =
    let seats = map (seated_by events) p.plan.tests in
    let parts = and_parts (nat_le (sum_by (seat_weight p.threads) seats) p.threads) _ is in
    let more = and_parts (list_all (λ group. keeps_limit seats group.name (group_named group.name p.plan.groups))
    p.plan.groups) (are_apart p.plan.groups seats) parts.1 in (
      record {
        all = subst (λ n. n ≤ p.threads) (sum_as events p.threads p.plan.tests)
            (leb-true (sum_by (seat_weight p.threads) seats) p.threads parts.0);
        groups = λ name group named. subst (λ n. n ≤ group.limit) (group_sum_as events name group.limit p.plan.tests)
            (groups_to p seats more.0 name group named);
      },
      slots_to p events (apart_to p.plan.groups (seated_by events) p.plan.tests more.1),
    )

kept_from : (p : Settings) (events : List AuditEvent) → KeepsSeenLimits p events → SlotsDiffer p events
    → keeps_seats (seats_by p events) ≡ true
kept_from p events limits differ =
    let seats = map (seated_by events) p.plan.tests in
    and_from (nat_le (sum_by (seat_weight p.threads) seats) p.threads) _
    (le-leb (sum_by (seat_weight p.threads) seats) p.threads
    (subst (λ n. n ≤ p.threads) (sym (sum_as events p.threads p.plan.tests)) limits.all))
    (and_from (list_all (λ group. keeps_limit seats group.name (group_named group.name p.plan.groups))
    p.plan.groups) (are_apart p.plan.groups seats)
    (groups_from p seats (λ name group named. subst (λ n. n ≤ group.limit)
    (sym (group_sum_as events name group.limit p.plan.tests)) (limits.groups name group named)))
    (apart_from p.plan.groups (seated_by events) p.plan.tests (slots_from p events differ)))

-- before any event
no_sum : (f : PlanTest → ℕ) → ((t : PlanTest) → f t ≡ 0) → (tests : List PlanTest) → sum_by f tests ≡ 0
no_sum f none [] = refl
no_sum f none (t ∷ tests) = ap (λ n. fold (λ a x. a + f x) (0 + n) tests) (none t) ∙ no_sum f none tests

at_none : (b : Bool) (n : ℕ) → n ≡ 0 → (if b then n else 0) ≡ 0
at_none true n none = none
at_none false n none = refl

none_runs : (p : Settings) (i : ℕ) (a : PlanTest) (s : TestSlotAssignment) → RunsIn p [] i a s → ⊥
none_runs p i a s x = true≢false (sym x.running)

pub none_kept : (p : Settings) → keeps_seats (seats_by p []) ≡ true
none_kept p = kept_from p [] (record {
  all = let none = no_sum (seen_weight [] p.threads) (λ t. refl) p.plan.tests in
      subst (λ n. n ≤ p.threads) (sym none) (omega arith);
  groups = λ name group named.
      let none = no_sum (seen_group_weight [] name group.limit) (λ t. at_none
      (is_of_group name t) 0 refl) p.plan.tests in
      subst (λ n. n ≤ group.limit) (sym none) (omega arith);
}) (record {
  all = λ i j a b s t x y same. absurd (none_runs p i a s x);
  groups = λ i j a b s t name x y first second same. absurd (none_runs p i a s x);
})

-- ---- a part, and the run

kept_after : (p : Settings) (part : List AuditEvent) (n : ℕ)
    → keeps_seats (fold seen_seats_after (no_seats p) (take n part)) ≡ keeps_seats (seats_by p (take n part))
kept_after p part n = ap keeps_seats (seats_are p (take n part))

pub limits_just : (p : Settings) → AcceptsJust limit_part (no_seats p) (KeepsTold p)
limits_just p part = (
  λ a. let each = guard_to seen_seats_after may_seat (no_seats p) part a in
      λ n. kept_to p (take n part)
      (sym (kept_after p part n) ∙ holds_each seen_seats_after keeps_seats (no_seats p) part (none_kept p) each n),
  λ k. guard_from seen_seats_after may_seat (no_seats p) part (each_holds seen_seats_after keeps_seats (no_seats p) part
      (λ n. kept_after p part n ∙ kept_from p (take n part) (k n).0 (k n).1)),
)

pub limits_are_law : (p : Settings) (now : InParts SeatsNow SeatsNow)
    → first_state endless (is_stress p) (no_seats p) ≡ Some now
    → AcceptsJust limit_machine now (λ events. All (KeepsTold p) (parts p events))
limits_are_law p now is = ever_just limit_part (no_seats p) (KeepsTold p) (limits_just p) (is_stress p) now is

pub limit_completes : PartCompletes limit_part (λ now. Unit {0})
limit_completes = record {
  more = λ now h. ([], end_from limit_part now refl, All-nil StaysWithin);
  kept = λ now e after h is. tt;
}

pub limits_complete : Completes limit_machine (HoldsInParts (λ now. Unit {0}) (λ now. Unit {0}))
limits_complete = endless_completes limit_part (λ now. Unit {0}) limit_completes
