-- The start that an admission sends has the slots that the plan gives: one within its group where that is one of the
-- plan.
use Rattle.std.proofs.Common.{◌≡◌, ◌⊎◌, inl, inr, ℕ, suc, ◌+◌, List, [], ◌∷◌, length, Bool, true, false, not, cond}
use Rattle.std.proofs.Common.{if◌then◌else◌, nat_eq, nat_lt, Option, Some, None, is_some, option_map, option_and_then}
use Rattle.std.proofs.Common.{slice_get, refl, ap, sym, subst, ◌∙◌, arith}
use Rattle.std.specs.Prelude.{⊤}
use Rattle.std.specs.List.{find, position_or_len}
use Rattle.std.proofs.lemmas.Bool.Decides.{nat_tests}
use Rattle.std.proofs.lemmas.Option.{slice_get-map}
use lib.Pointwise.{pointwise}
use Rattle.run_events.specs.declared.settings.Settings.{Settings}
use Rattle.run_events.specs.declared.plan.Group.{Group}
use Rattle.run_events.specs.declared.plan.PlanTest.{PlanTest}
use Rattle.run_events.specs.declared.message.Message.{Message}
use Rattle.run_events.specs.declared.message.Message.TheVariants.{Start}
use Rattle.run_events.specs.declared.message.TestStart.{TestStart}
use Rattle.run_admission.specs.declared.seat.Admitted.{Admitted}
use Rattle.run_admission.specs.declared.seat.Admitted.TheVariants.{Run}
use Rattle.run_admission.specs.declared.seat.Candidate.{Candidate}
use Rattle.run_admission.specs.declared.seat.Candidate.TheVariants.{Skip, Fits, Blocked}
use Rattle.run_admission.specs.InUse.{Admissions, admitted, admitted_as, candidate, claim_of, free_group_slot, group_of}
use Rattle.run_admission.specs.InUse.{least_free, slot_in, tests}
use Rattle.run_model.specs.declared.unit_view.UnitView.{UnitView}
use Rattle.run_model.specs.Admission.{unit_of_test, group_slot, limits_of, Newcomer, newcomer}
use Rattle.run_laws.proofs.board.Newcomers.{Becomes, Newcomes, ScriptComes, newcomer_is}
use Rattle.run_laws_events.specs.PlanLimits.{group_named, group_of_plan}
use Rattle.run_events.specs.declared.stress.StressIndex.{StressIndex}

-- a start has the slots of a test of the plan
pub record StartFits (p : Settings) (start : TestStart) : Type 0 where
  pub place : ℕ
  pub test : PlanTest
  pub unit : start.test.unit ≡ unit_of_test p place
  pub planned : slice_get p.plan.tests place ≡ Some test
  pub group : option_map (λ g. g.name) start.slot.group ≡ group_of_plan p.plan.groups test.group

abbrev pub MessageFits : Settings → Message → Type 0
MessageFits p (Start start) = StartFits p start
MessageFits p _ = ⊤

-- a place is found exactly where an element is
found_too : (named : Group → Bool) (groups : List Group)
    → nat_lt (position_or_len named groups) (length groups) ≡ is_some (find named groups)
found_too named [] = refl
found_too named (g ∷ groups) = by_first (named g) (found_too named groups)
  where
    below : (m n : ℕ) → nat_lt (1 + m) (suc n) ≡ nat_lt m n
    below m n = grind (arith, nat_tests)

    at_once : (n : ℕ) → nat_lt 0 (suc n) ≡ true
    at_once n = grind (arith, nat_tests)

    by_first : (b : Bool) → nat_lt (position_or_len named groups) (length groups) ≡ is_some (find named groups)
        → nat_lt (cond (not b) (1 + position_or_len named groups) 0) (length (g ∷ groups))
        ≡ is_some (cond b (Some g) (find named groups))
    by_first true rest = at_once (length groups)
    by_first false rest = below (position_or_len named groups) (length groups) ∙ rest

-- the slot within its group that an admission gives is one of the group that the test claims
abbrev slot_given : Option Admitted → Option ℕ
slot_given (Some (Run place global slot)) = slot
slot_given _ = None

abbrev place_given : Option Admitted → ℕ
place_given (Some (Run place global slot)) = place
place_given _ = 0

run_slot : (a : Admissions) (place global : ℕ) (slot : Option ℕ) → admitted a ≡ Some (Run place global slot)
    → slot ≡ option_and_then (free_group_slot a) (slice_get a.claims place)
run_slot a place global slot e = by_candidate (candidate a) e
  where
    by_candidate : (o : Option Candidate) → option_and_then (admitted_as a) o ≡ Some (Run place global slot)
        → slot ≡ option_and_then (free_group_slot a) (slice_get a.claims place)
    by_candidate None e = cc
    by_candidate (Some (Skip test)) e = cc
    by_candidate (Some (Blocked test)) e = cc
    by_candidate (Some (Fits test)) e =
        let here : test ≡ place = ap place_given e in
        sym (ap slot_given e) ∙ ap (λ k. option_and_then (free_group_slot a) (slice_get a.claims k)) here

-- so it names the test's group exactly where that is one of the plan
names_group : (groups : List Group) (own : Option (List ℕ)) (free : ℕ → ℕ)
    → option_map (λ g. g.name) (group_slot (option_map free (option_and_then (group_of groups) own)) own)
    ≡ group_of_plan groups own
names_group groups None free = refl
names_group groups (Some name) free =
    by_place (nat_lt (position_or_len named groups) (length groups)) (found_too named groups)
  where
    named : Group → Bool
    named g = pointwise nat_eq g.name name

    by_place : (b : Bool) → b ≡ is_some (group_named name groups)
        → option_map (λ g. g.name)
        (group_slot (option_map free (cond b (Some (position_or_len named groups)) None)) (Some name))
        ≡ (if is_some (group_named name groups) then Some name else None)
    by_place true is = ap (λ b. if b then Some name else None) is
    by_place false is = ap (λ b. if b then Some name else None) is

-- what an admission sends
becomes_fits : (p : Settings) (index : Option StressIndex) (us : List (Option UnitView)) (place : ℕ) (test : PlanTest)
    (new : Newcomer)
    → slice_get p.plan.tests place ≡ Some test → Becomes p index us place test new → MessageFits p new.sent
becomes_fits p index us place test new planned (inl (reason, skip, is)) =
    subst (λ (n : Newcomer). MessageFits p n.sent) (sym is) tt
becomes_fits p index us place test new planned (inr (skip, (global, (slot, runs, is)))) =
    subst (λ (n : Newcomer). MessageFits p n.sent) (sym is) (record {
      place = place;
      test = test;
      unit = refl;
      planned = planned;
      group = ap (λ slot. option_map (λ g. g.name) (group_slot slot test.group)) given
          ∙ names_group p.plan.groups test.group (λ g. least_free (slot_in g) (tests a));
    })
  where
    a : Admissions
    a = limits_of p us

    given : slot
        ≡ option_map (λ g. least_free (slot_in g) (tests a)) (option_and_then (group_of p.plan.groups) test.group)
    given = run_slot a place global slot runs
        ∙ ap (option_and_then (free_group_slot a))
        (slice_get-map (claim_of p.plan.groups) p.plan.tests place ∙ ap (option_map (claim_of p.plan.groups)) planned)

pub newcomer_fits : (p : Settings) (index : Option StressIndex) (us : List (Option UnitView)) (new : Newcomer)
    → newcomer p index us ≡ Some new
    → MessageFits p new.sent
newcomer_fits p index us new e = by_kind (newcomer_is p index us new e)
  where
    by_kind : Newcomes p index us new ⊎ ScriptComes p index us new → MessageFits p new.sent
    by_kind (inl it) = becomes_fits p index us it.place it.test new it.planned it.is
    by_kind (inr it) = subst (λ (n : Newcomer). MessageFits p n.sent) (sym it.is) tt
