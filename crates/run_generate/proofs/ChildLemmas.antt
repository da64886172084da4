-- The least unit whose child stands so is the first in its phase.
use Rattle.std.proofs.Common.{◌≡◌, ℕ, ◌+◌, ◌<◌, ◌^◌, List, get_or, Bool, true, false, Option, Some, None}
use Rattle.std.proofs.Common.{if◌then◌else◌}
use Rattle.std.proofs.Common.{option_map, option_and_then, IfSome, IsNone, refl, ap, sym, subst, ◌∙◌, arith}
use Rattle.std.proofs.lemmas.List.Quantifiers.{position-Some}
use Rattle.std.proofs.lemmas.Option.{same_Some}
use Rattle.run_events.specs.declared.turn.Turn.TheVariants.{Exit}
use Rattle.run_model.specs.declared.entry.Entry.{Entry}
use Rattle.run_model.specs.declared.phase.Phase.{Phase}
use Rattle.run_model.specs.declared.phase.Phase.TheVariants.{Starting, Running}
use Rattle.run_model.specs.declared.unit_view.UnitView.{UnitView}
use Rattle.run_model.specs.Admission.{is_done, is_last, units_in}
use Rattle.run_model.specs.Board.{Board, unit_in}
use Rattle.run_state.specs.First.{IsFirstIn, NoneIsIn}
use Rattle.run_state.specs.First.{phase_of as phase_in}
use Rattle.run_engine.specs.Lean.{StandsForJournal, attempt_at}
use Rattle.run_engine.proofs.UnkeptLemmas.{all_units}
use Rattle.run_generate.specs.OnWay.{board_of, child_phase}
use Rattle.run_generate.specs.Turns.{exit_at, exit_turn, first_with, has_child, unit_has}
use Rattle.run_generate.specs.declared.child.Child.{Child}
use Rattle.run_generate.specs.declared.child.Child.TheVariants as children
use Rattle.run_generate.specs.declared.on_way.OnWay.{OnWay}
use Rattle.run_generate.proofs.FirstLemmas.{position_is, position_none}

-- a unit that has such a child isn't over
pub child_going : (child : Child) → is_last (child_phase child) ≡ false
child_going children.Asked = refl
child_going children.Runs = refl

-- a unit has such a child where it is in its phase, and nowhere else
has_child_in : (child : Child) (u : Option UnitView) → phase_in u ≡ Some (child_phase child) → unit_has child u ≡ true
has_child_in child None e = cc
has_child_in children.Asked (Some u) e = ap (has_child children.Asked) (same_Some _ _ e)
has_child_in children.Runs (Some u) e = ap (has_child children.Runs) (same_Some _ _ e)

phase_is : (child : Child) (ph : Phase) → has_child child ph ≡ true → ph ≡ child_phase child
phase_is children.Asked Starting e = refl
phase_is children.Runs Running e = refl
phase_is child ph e = cc

has_none : (child : Child) (u : Option UnitView) → (phase_in u ≡ Some (child_phase child) → ⊥) → unit_has child u ≡
    false
has_none child None none = refl
has_none child (Some u) none = by_test (has_child child u.phase) refl
  where
    by_test : (b : Bool) → has_child child u.phase ≡ b → b ≡ false
    by_test false e = refl
    by_test true e = absurd (none (ap Some (phase_is child u.phase e)))

first_is : (child : Child) (b : Board) (k : ℕ) → IsFirstIn b.units (child_phase child) k → Some k ≡ first_with child b
first_is child b k f =
    sym (position_is (unit_has child) b.units None refl k (has_child_in child (get_or b.units k None) f.is)
    (λ j less. has_none child (get_or b.units j None) (f.before j less)))

none_is : (child : Child) (b : Board) → NoneIsIn b.units (child_phase child) → None ≡ first_with child b
none_is child b none =
    sym (position_none (unit_has child) b.units None (λ k. has_none child (get_or b.units k None) (none k)))

-- the first unit in the phase of a child is the least that has it
pub first_found : (child : Child) (b : Board) (phase : Phase) (first : Option ℕ) → phase ≡ child_phase child
    → IfSome first (IsFirstIn b.units phase) → (IsNone first → NoneIsIn b.units phase) → first ≡ first_with child b
first_found child b phase None same some none =
    none_is child b (subst (NoneIsIn b.units) same (none refl))
first_found child b phase (Some k) same some none =
    first_is child b k (subst (λ ph. IsFirstIn b.units ph k) same some)

-- the number of such a unit has room
pub first_few : (g : OnWay) (journal : List Entry) (child : Child) (k : ℕ) → StandsForJournal g.run journal
    → Some k ≡ first_with child (board_of g) → k + 1 < 2 ^ 32
first_few g journal child k s is =
    let within = (position-Some (unit_has child) (board_of g).units k None (sym is)).0 in
    let long = all_units g.run.settings g.run.state g.run.turns journal s in
    let most : units_in g.run.settings < 2 ^ 32 = s.runnable.few.units in
    omega (arith, within, long, most)

-- a unit whose child runs isn't over
runs_on : (u : Option UnitView) → unit_has children.Runs u ≡ true → is_done u ≡ false
runs_on None e = cc
runs_on (Some u) e = ap is_last (phase_is children.Runs u.phase e)

-- the exit of the least unit whose child runs, by the attempt that it is at
pub exit_is : (b : Board) (k : ℕ) (attempt : Option ℕ) → Some k ≡ first_with children.Runs b
    → attempt ≡ attempt_at b k → option_map (λ n. Exit k (exit_at k n)) attempt ≡ exit_turn b
exit_is b k attempt is at =
    ap (option_map (λ n. Exit k (exit_at k n))) (at ∙ going) ∙ at_once (unit_in b k)
    ∙ ap (option_and_then (λ k. option_map (λ (u : UnitView). Exit k (exit_at k u.attempt)) (unit_in b k))) is
  where
    going : attempt_at b k ≡ option_map (λ (u : UnitView). u.attempt) (unit_in b k)
    going = ap (λ done. if done then None else option_map (λ (u : UnitView). u.attempt) (unit_in b k))
        (runs_on (unit_in b k) (position-Some (unit_has children.Runs) b.units k None (sym is)).1)

    at_once : (o : Option UnitView)
        → option_map (λ n. Exit k (exit_at k n)) (option_map (λ (u : UnitView). u.attempt) o)
        ≡ option_map (λ (u : UnitView). Exit k (exit_at k u.attempt)) o
    at_once None = refl
    at_once (Some u) = refl
