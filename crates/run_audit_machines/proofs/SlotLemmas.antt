-- That no two seats have the same slot, as a test tells it.
use Rattle.std.specs.Prelude.{slice_get}
use Rattle.std.proofs.Common.{◌≡◌, ◌∙◌, ◌↔◌, ℕ, zero, suc, ◌==◌, List, [], ◌∷◌}
use Rattle.std.proofs.Common.{map, Option, Some, None, option_map, is_some, Bool}
use Rattle.std.proofs.Common.{true, false, ◌&&◌, not, refl, sym, ap, ap₂, subst, true≢false, arith}
use Rattle.std.proofs.Common.{eqb-true, eq-eqb}
use Rattle.std.proofs.Common.{inl, inr, ⊎_elim, ◌⊎◌}
use Rattle.std.specs.List.{list_all}
use lib.Pointwise.{bytes_decides}
use Rattle.std.proofs.lemmas.Bool.{and_from, and_parts, or_cases, or_left, or_right}
use Rattle.std.proofs.lemmas.Option.{same_Some}
use Rattle.run_events.specs.declared.plan.Group.{Group}
use Rattle.run_events.specs.declared.plan.PlanTest.{PlanTest}
use Rattle.run_events.specs.declared.plan.TestSlotAssignment.{TestSlotAssignment}
use Rattle.run_events.specs.declared.settings.Settings.{Settings}
use Rattle.run_laws_events.specs.PlanLimits.{group_of_plan}
use Rattle.run_audit_model.specs.SeenLimits.{RunsIn, SlotsDiffer}
use Rattle.run_audit_model.specs.declared.audit_event.AuditEvent.{AuditEvent}
use Rattle.run_audit_machines.specs.Limits.{Seated, are_apart, clash, clash_in}
use Rattle.run_audit_machines.specs.Limits.{is_same_group, is_same_number, is_seated}
use Rattle.run_audit_machines.specs.Limits.{share_slots}
use Rattle.run_audit_machines.proofs.SeatLemmas.{runs_as, seated_by, slots_as}

-- ---- slots

pub record Shares (groups : List Group) (a b : PlanTest) (s t : TestSlotAssignment) (name : List ℕ) : Type 0 where
  pub own : group_of_plan groups a.group ≡ Some name
  pub other : group_of_plan groups b.group ≡ Some name
  pub slot : option_map (λ g. g.slot) s.group ≡ option_map (λ g. g.slot) t.group

abbrev pub AreShared : List Group → PlanTest → PlanTest → TestSlotAssignment → TestSlotAssignment → Type 0
AreShared groups a b s t = (s.global ≡ t.global) ⊎ ((name : List ℕ) × Shares groups a b s t name)

pub same_number : (a b : Option ℕ) → (is_same_number a b ≡ true) ↔ (a ≡ b)
same_number None None = (λ h. refl, λ h. refl)
same_number None (Some b) = (λ h. absurd (true≢false (sym h)), λ h. absurd (true≢false (ap is_some (sym h))))
same_number (Some a) None = (λ h. absurd (true≢false (sym h)), λ h. absurd (true≢false (ap is_some h)))
same_number (Some a) (Some b) = (λ h. ap Some (eqb-true a b h), λ h. eq-eqb a b (same_Some a b h))

pub same_group_to : (a b : Option (List ℕ)) → is_same_group a b ≡ true → (name : List ℕ) × (a ≡ Some name)
    × (b ≡ Some name)
same_group_to None b is = absurd (true≢false (sym is))
same_group_to (Some a) None is = absurd (true≢false (sym is))
same_group_to (Some a) (Some b) is = (a, refl, ap Some (sym ((bytes_decides a b).0 is)))

pub shared_to : (groups : List Group) (a b : PlanTest) (s t : TestSlotAssignment) → share_slots groups a b s t ≡ true
    → AreShared groups a b s t
shared_to groups a b s t is =
    ⊎_elim (λ h. inl (eqb-true s.global t.global h)) (λ h.
    let parts = and_parts (is_same_group (group_of_plan groups a.group) (group_of_plan groups b.group)) _ h in
    let name = same_group_to (group_of_plan groups a.group) (group_of_plan groups b.group) parts.0 in
    inr (name.0, record { own = name.1; other = name.2; slot = (same_number _ _).0 parts.1 }))
    (or_cases (s.global == t.global) _ is)

pub shared_from : (groups : List Group) (a b : PlanTest) (s t : TestSlotAssignment) → AreShared groups a b s t
    → share_slots groups a b s t ≡ true
shared_from groups a b s t (inl h) = or_left (s.global == t.global) _ (eq-eqb s.global t.global h)
shared_from groups a b s t (inr (name, h)) = or_right (s.global == t.global) _
    (and_from (is_same_group (group_of_plan groups a.group) (group_of_plan groups b.group)) _
    (ap₂ is_same_group h.own h.other ∙ (bytes_decides name name).1 refl) ((same_number _ _).1 h.slot))

pub turned : (groups : List Group) (a b : PlanTest) (s t : TestSlotAssignment) → AreShared groups a b s t
    → AreShared groups b a t s
turned groups a b s t (inl h) = inl (sym h)
turned groups a b s t (inr (name, h)) = inr (name, record { own = h.other; other = h.own; slot = sym h.slot })

-- two seats clash: both run, with these slots
pub record Clash (groups : List Group) (x y : Seated) (s t : TestSlotAssignment) : Type 0 where
  pub left : is_seated x ≡ true
  pub right : is_seated y ≡ true
  pub own : x.1.slots ≡ Some s
  pub other : y.1.slots ≡ Some t
  pub shared : AreShared groups x.0 y.0 s t

pub slots_there : (groups : List Group) (a b : PlanTest) (o q : Option TestSlotAssignment)
    → clash_in groups a b o q ≡ true
    → (s t : TestSlotAssignment) × (o ≡ Some s) × (q ≡ Some t) × AreShared groups a b s t
slots_there groups a b None q is = absurd (true≢false (sym is))
slots_there groups a b (Some s) None is = absurd (true≢false (sym is))
slots_there groups a b (Some s) (Some t) is = (s, t, refl, refl, shared_to groups a b s t is)

pub clash_to : (groups : List Group) (x y : Seated) → clash groups x y ≡ true
    → (s t : TestSlotAssignment) × Clash groups x y s t
clash_to groups x y is =
    let parts = and_parts (is_seated x && is_seated y) (clash_in groups x.0 y.0 x.1.slots y.1.slots) is in
    let both = and_parts (is_seated x) (is_seated y) parts.0 in
    let there = slots_there groups x.0 y.0 x.1.slots y.1.slots parts.1 in (
      there.0,
      there.1,
      record {
        left = both.0;
        right = both.1;
        own = there.2;
        other = there.3;
        shared = there.4;
      },
    )

pub clash_from : (groups : List Group) (x y : Seated) (s t : TestSlotAssignment) → Clash groups x y s t
    → clash groups x y ≡ true
clash_from groups x y s t c =
    and_from (is_seated x && is_seated y) (clash_in groups x.0 y.0 x.1.slots y.1.slots)
    (and_from (is_seated x) (is_seated y) c.left c.right)
    (ap₂ (clash_in groups x.0 y.0) c.own c.other ∙ shared_from groups x.0 y.0 s t c.shared)

pub clash_turned : (groups : List Group) (x y : Seated) → clash groups x y ≡ true → clash groups y x ≡ true
clash_turned groups x y is =
    let c = clash_to groups x y is in
    clash_from groups y x c.1 c.0 (record {
      left = c.2.right;
      right = c.2.left;
      own = c.2.other;
      other = c.2.own;
      shared = turned groups x.0 y.0 c.0 c.1 c.2.shared;
    })

-- which of some seats clash: none but one with itself
abbrev pub OwnAlone : List Group → (PlanTest → Seated) → List PlanTest → Type 0
OwnAlone groups h tests = (i j : ℕ) (a b : PlanTest) → slice_get tests i ≡ Some a → slice_get tests j ≡ Some b
    → clash groups (h a) (h b) ≡ true → i ≡ j

pub not_both : (b : Bool) → not b ≡ true → b ≡ true → ⊥
not_both true is at = true≢false (sym is)
not_both false is at = true≢false (sym at)

pub all_at : (passes : Seated → Bool) (h : PlanTest → Seated) (tests : List PlanTest) (j : ℕ) (b : PlanTest)
    → list_all passes (map h tests) ≡ true → slice_get tests j ≡ Some b → passes (h b) ≡ true
all_at passes h [] j b all is = absurd (true≢false (ap is_some (sym is)))
all_at passes h (t ∷ tests) zero b all is =
    subst (λ x. passes (h x) ≡ true) (same_Some t b is) (and_parts (passes (h t)) _ all).0
all_at passes h (t ∷ tests) (suc j) b all is = all_at passes h tests j b (and_parts (passes (h t)) _ all).1 is

pub all_by : (passes : Seated → Bool) (h : PlanTest → Seated) (tests : List PlanTest)
    → ((j : ℕ) (b : PlanTest) → slice_get tests j ≡ Some b → passes (h b) ≡ true)
    → list_all passes (map h tests) ≡ true
all_by passes h [] each = refl
all_by passes h (t ∷ tests) each =
    and_from (passes (h t)) _ (each 0 t refl) (all_by passes h tests (λ j b is. each (suc j) b is))

pub apart_to : (groups : List Group) (h : PlanTest → Seated) (tests : List PlanTest)
    → are_apart groups (map h tests) ≡ true → OwnAlone groups h tests
apart_to groups h [] is i j a b at to c = absurd (true≢false (ap is_some (sym at)))
apart_to groups h (t ∷ tests) is zero zero a b at to c = refl
apart_to groups h (t ∷ tests) is zero (suc j) a b at to c =
    let first = (and_parts (list_all (λ x. not (clash groups (h t) x)) (map h tests)) _ is).0 in
    let own = subst (λ x. clash groups (h x) (h b) ≡ true) (sym (same_Some t a at)) c in
    absurd (not_both (clash groups (h t) (h b)) (all_at (λ x. not (clash groups (h t) x)) h tests j b first to) own)
apart_to groups h (t ∷ tests) is (suc i) zero a b at to c =
    let first = (and_parts (list_all (λ x. not (clash groups (h t) x)) (map h tests)) _ is).0 in
    let own = subst (λ x. clash groups (h a) (h x) ≡ true) (sym (same_Some t b to)) c in
    absurd (not_both (clash groups (h t) (h a)) (all_at (λ x. not (clash groups (h t) x)) h tests i a first at)
    (clash_turned groups (h a) (h t) own))
apart_to groups h (t ∷ tests) is (suc i) (suc j) a b at to c =
    let rest = (and_parts (list_all (λ x. not (clash groups (h t) x)) (map h tests)) _ is).1 in
    ap suc (apart_to groups h tests rest i j a b at to c)

pub no_clash : (b : Bool) → (b ≡ true → ⊥) → not b ≡ true
no_clash true h = absurd (h refl)
no_clash false h = refl

pub apart_from : (groups : List Group) (h : PlanTest → Seated) (tests : List PlanTest) → OwnAlone groups h tests
    → are_apart groups (map h tests) ≡ true
apart_from groups h [] own = refl
apart_from groups h (t ∷ tests) own =
    and_from (list_all (λ x. not (clash groups (h t) x)) (map h tests)) _
    (all_by (λ x. not (clash groups (h t) x)) h tests (λ j b to. no_clash (clash groups (h t) (h b)) (λ c.
    let is : 0 ≡ suc j = own 0 (suc j) t b refl to c in absurd (omega (arith, is)))))
    (apart_from groups h tests (λ i j a b at to c.
    let is : suc i ≡ suc j = own (suc i) (suc j) a b at to c in omega (arith, is)))

pub runs_in : (p : Settings) (events : List AuditEvent) (i : ℕ) (a : PlanTest) (s : TestSlotAssignment)
    → slice_get p.plan.tests i ≡ Some a → is_seated (seated_by events a) ≡ true
    → (seated_by events a).1.slots ≡ Some s → RunsIn p events i a s
runs_in p events i a s at runs slots = record {
  planned = at;
  running = sym (runs_as events a) ∙ runs;
  told = sym (slots_as events a) ∙ slots;
}

pub clash_of : (p : Settings) (events : List AuditEvent) (i j : ℕ) (a b : PlanTest) (s t : TestSlotAssignment)
    → RunsIn p events i a s → RunsIn p events j b t → AreShared p.plan.groups a b s t
    → clash p.plan.groups (seated_by events a) (seated_by events b) ≡ true
clash_of p events i j a b s t x y shared =
    clash_from p.plan.groups (seated_by events a) (seated_by events b) s t (record {
      left = runs_as events a ∙ x.running;
      right = runs_as events b ∙ y.running;
      own = slots_as events a ∙ x.told;
      other = slots_as events b ∙ y.told;
      shared = shared;
    })

pub slots_to : (p : Settings) (events : List AuditEvent)
    → OwnAlone p.plan.groups (seated_by events) p.plan.tests → SlotsDiffer p events
slots_to p events own = record {
  all = λ i j a b s t x y same.
      own i j a b x.planned y.planned (clash_of p events i j a b s t x y (inl same));
  groups = λ i j a b s t name x y first second same.
      own i j a b x.planned y.planned
      (clash_of p events i j a b s t x y (inr (name, record { own = first; other = second; slot = same })));
}

pub slots_from : (p : Settings) (events : List AuditEvent) → SlotsDiffer p events
    → OwnAlone p.plan.groups (seated_by events) p.plan.tests
slots_from p events differ i j a b at to is =
    let c = clash_to p.plan.groups (seated_by events a) (seated_by events b) is in
    let x = runs_in p events i a c.0 at c.2.left c.2.own in
    let y = runs_in p events j b c.1 to c.2.right c.2.other in
    ⊎_elim (λ same. differ.all i j a b c.0 c.1 x y same)
    (λ h. differ.groups i j a b c.0 c.1 h.0 x y h.1.own h.1.other h.1.slot) c.2.shared
