-- What the turns of the children of a generated run do to its board.
use Rattle.std.proofs.Common.{◌≡◌, ℕ, not, List, length, get_or, set, Bool}
use Rattle.std.proofs.Common.{true, false, Option, Some, None, nat_lt, cond, position, option_map, refl, ap, sym, ◌∙◌}
use Rattle.std.proofs.Common.{subst}
use Rattle.std.proofs.Common.{arith}
use Rattle.std.specs.List.{position_or_len}
use Rattle.std.proofs.Math.ListN.{length-set}
use Rattle.std.proofs.lemmas.List.Folds.{position_or_len-set}
use Rattle.std.proofs.lemmas.List.Quantifiers.{position-Some}
use Rattle.run_capture.specs.declared.test_output.Stream.TheVariants as streams
use Rattle.run_events.specs.declared.result.ChildExit.{ChildExit}
use Rattle.run_events.specs.declared.settings.Settings.{Settings}
use Rattle.run_events.specs.declared.turn.Turn.TheVariants as turns
use Rattle.run_model.specs.Board.{Board, moved, step, unit_in}
use Rattle.run_model.specs.Row.{Row}
use Rattle.run_model.specs.Turns.{deed_on, enabled_on, taken_deed, unit_takes}
use Rattle.run_model.specs.Unit.{at_moment, row, row_at}
use Rattle.run_model.specs.declared.phase.Phase.{Phase}
use Rattle.run_model.specs.declared.phase.Phase.TheVariants.{Starting, Running}
use Rattle.run_model.specs.declared.unit_turn.UnitTurn.TheVariants as own
use Rattle.run_model.specs.declared.unit_view.UnitView.{UnitView}
use Rattle.run_laws.proofs.units.AccountRows.{same_number}
use Rattle.run_laws_generate.proofs.Moves.{Eases, IsCalm, is_current, step_eases}
use Rattle.run_laws_generate.proofs.Rows.{exit_row, started_row, stream_row}
use Rattle.run_laws_generate.proofs.Steps.{IsKnown, acts_eases, both-right}
use Rattle.run_laws_generate.proofs.Next.{at_rest, after_tick, after_end, is_asked, is_running, stands_as, first_in}
use Rattle.run_laws_generate.proofs.Weights.{IsEasy, Lessens, StandsIn}

-- the first unit whose child stands so
pub record IsFound (child : Phase → Bool) (b : Board) (k : ℕ) : Type 0 where
  pub unit : UnitView
  pub is : unit_in b k ≡ Some unit
  pub stands : child unit.phase ≡ true

-- the first that is found stands so
pub found : (child : Phase → Bool) (b : Board) (k : ℕ) → first_in child b ≡ Some k → IsFound child b k
found child b k e =
    by_unit (unit_in b k) refl (position-Some (stands_as child) b.units k None e).1
  where
    by_unit : (o : Option UnitView) → unit_in b k ≡ o → stands_as child o ≡ true → IsFound child b k
    by_unit None is has = cc
    by_unit (Some u) is has = record { unit = u; is = is; stands = has }

-- a child that runs is that of a unit that runs
pub runs_in : (ph : Phase) → is_running ph ≡ true → ph ≡ Running
runs_in Running e = refl
runs_in ph e = cc

-- and one that is asked for is that of a unit that starts
pub starts_in : (ph : Phase) → is_asked ph ≡ true → ph ≡ Starting
starts_in Starting e = refl
starts_in ph e = cc

-- a child has started
pub started_eases : (p : Settings) (b : Board) (k pid : ℕ) → IsKnown p b → IsCalm None b
    → enabled_on p b (turns.Started k pid) ≡ true
    → Eases at_rest at_rest 1 None b (step b (turns.Started k pid) (deed_on p b (turns.Started k pid)))
started_eases p b k pid known calm en =
    step_eases at_rest at_rest 1 None b (turns.Started k pid) (deed_on p b (turns.Started k pid))
    (by_unit (unit_in b k) refl
    (both-right (not b.dispatcher.over) (unit_takes b.clock (unit_in b k) (own.Started pid)) en))
  where
    by_unit : (o : Option UnitView) → unit_in b k ≡ o → unit_takes b.clock o (own.Started pid) ≡ true
        → Eases at_rest at_rest 1 None b (moved b (taken_deed b.clock k (own.Started pid) (unit_in b k)))
    by_unit None is takes = cc
    by_unit (Some u) is takes =
        let easy : IsEasy b.clock false u = calm.easy k u is in
        acts_eases at_rest at_rest 1 1 None None b k u (own.Started pid) calm is
        (started_row b.clock pid false u.phase u takes easy.stands easy.line (known.plain k u is)) (λ j e. refl)
        (omega arith)

-- the output of the first child that runs has ended
pub stream_eases : (p : Settings) (b : Board) (k : ℕ) → IsCalm None b → first_in is_running b ≡ Some k
    → Eases after_tick after_end 1 (Some k) b
    (step b (turns.StreamEnd k streams.Combined) (deed_on p b (turns.StreamEnd k streams.Combined)))
stream_eases p b k calm first =
    let at = found is_running b k first in
    let u : UnitView = at.unit in
    let easy : IsEasy b.clock false u = calm.easy k u at.is in
    step_eases after_tick after_end 1 (Some k) b (turns.StreamEnd k streams.Combined)
    (deed_on p b (turns.StreamEnd k streams.Combined))
    (acts_eases after_tick after_end 1 0 None (Some k) b k u (own.StreamEnd streams.Combined) calm at.is
    (subst (λ c. Lessens b.clock c u.phase u 0 (row b.clock (own.StreamEnd streams.Combined) u)) (sym (same_number k))
    (stream_row b.clock u.phase u (runs_in u.phase at.stands) easy.stands refl easy.line)) (λ j e. e) (omega arith))

-- the same child is the first that runs after its stream's end
position-set : {X : Type 0} (f : X → Bool) (xs : List X) (k : ℕ) (y d : X) → f y ≡ f (get_or xs k d)
    → position f (set xs k y) ≡ position f xs
position-set f xs k y d same =
    ap (λ n. cond (nat_lt n (length (set xs k y))) (Some n) None) (position_or_len-set f xs k y d same)
    ∙ ap (λ m. cond (nat_lt (position_or_len f xs) m) (Some (position_or_len f xs)) None) (length-set xs k y)

-- after that it is still the first that runs
pub stream_first : (p : Settings) (b : Board) (k : ℕ) → first_in is_running b ≡ Some k
    → first_in is_running
    (step b (turns.StreamEnd k streams.Combined) (deed_on p b (turns.StreamEnd k streams.Combined))) ≡ Some k
stream_first p b k first =
    subst (λ o. position (stands_as is_running)
    (moved b (taken_deed b.clock k (own.StreamEnd streams.Combined) o)).units ≡ Some k)
    (sym at.is)
    (ap (λ o. position (stands_as is_running)
    (set b.units k (option_map (λ v. (row b.clock (own.StreamEnd streams.Combined) v).next) o))) at.is
    ∙ position-set (stands_as is_running) b.units k (Some r.next) None
    (still ∙ sym (ap (stands_as is_running) at.is ∙ at.stands))
    ∙ first)
  where
    at : IsFound is_running b k
    at = found is_running b k first

    u : UnitView
    u = at.unit

    r : Row
    r = row b.clock (own.StreamEnd streams.Combined) u

    still : is_running r.next.phase ≡ true
    still =
        ap (λ ph. is_running
        (row_at b.clock ph (own.StreamEnd streams.Combined) (at_moment b.clock u)).next.phase)
        (runs_in u.phase at.stands) ∙ at.stands

-- the first child that runs, whose output has ended, exits
pub exit_eases : (p : Settings) (b : Board) (k : ℕ) (exit : ChildExit) → IsKnown p b → IsCalm (Some k) b
    → first_in is_running b ≡ Some k
    → Eases after_end at_rest 1 None b (step b (turns.Exit k exit) (deed_on p b (turns.Exit k exit)))
exit_eases p b k exit known calm first =
    let at = found is_running b k first in
    let u : UnitView = at.unit in
    let easy : IsEasy b.clock (is_current (Some k) k) u = calm.easy k u at.is in
    let stands : StandsIn b.clock true u.phase u =
    subst (λ c. StandsIn b.clock c u.phase u) (same_number k) easy.stands in
    step_eases after_end at_rest 1 None b (turns.Exit k exit) (deed_on p b (turns.Exit k exit))
    (acts_eases after_end at_rest 1 22 (Some k) None b k u (own.Exit exit) calm at.is
    (exit_row b.clock exit u.phase u (runs_in u.phase at.stands) stands easy.line (known.plain k u at.is))
    (λ j e. sym e) (omega arith))
