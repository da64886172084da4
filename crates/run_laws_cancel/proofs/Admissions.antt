-- A script is admitted once each before it is over.
use Rattle.std.proofs.Common.{◌≡◌, ℕ, zero, suc, ◌+◌, ◌<◌, ◌==◌, List, [], ◌∷◌, get_or, Bool, true, false}
use Rattle.std.proofs.Common.{if◌then◌else◌, Option, Some, None, is_some, option_and_then, option_map, slice_get, refl}
use Rattle.std.proofs.Common.{ap, sym, ◌∙◌, arith}
use Rattle.std.proofs.lemmas.List.{get_or-take}
use Rattle.std.proofs.lemmas.Option.{same_Some}
use Rattle.run_events.specs.declared.message.Message.{Message}
use Rattle.run_events.specs.declared.plan.PlanScript.{PlanScript}
use Rattle.run_events.specs.declared.request.Request.{Request}
use Rattle.run_events.specs.declared.settings.Settings.{Settings}
use Rattle.run_events.specs.declared.turn.Turn.{Turn}
use Rattle.run_model.specs.declared.entry.Entry.{Entry}
use Rattle.run_model.specs.declared.happening.Happening.{Happening}
use Rattle.run_model.specs.declared.happening.UnitPart.{UnitPart}
use Rattle.run_model.specs.declared.happening.UnitPart.TheVariants.{Joins, Acts}
use Rattle.run_model.specs.declared.unit_turn.UnitTurn.{UnitTurn}
use Rattle.run_model.specs.declared.unit_view.UnitView.{UnitView}
use Rattle.run_model.specs.Admission.{Newcomer, is_done, is_last, newcomer, open_script, script_newcomer, scripts_in}
use Rattle.run_model.specs.Admission.{scripts_of, scripts_over, test_newcomer, script_view, started_newcomer}
use Rattle.run_model.specs.Board.{Board, Deed, said}
use Rattle.run_model.specs.Cancel.{Cause, cause_of, caused}
use Rattle.run_model.specs.Dispatch.{Moment, go_of, heard_by, moment_by}
use Rattle.run_model.specs.Environment.{number}
use Rattle.run_model.specs.Turns.{admission, answer_to, deed_on, delivered_as, delivery, done_by, event_of, starting}
use Rattle.run_model.specs.Turns.{live_in, oldest_of, taken_deed, takes_turn, tally_with, turn_of_unit}
use Rattle.run_events.specs.Hearing.{heard_key}
use Rattle.run_model.specs.Unit.{reach, row}
use Rattle.run_model.specs.Words.{unit_after, unit_of, units}
use Rattle.run_laws.proofs.board.ByTurn.{by_turn}
use Rattle.run_laws.proofs.board.DeedFits.{PartFits}
use Rattle.run_laws.proofs.told.Asides.{answer_aside, by_signal, key_aside}
use Rattle.run_model.specs.Turns.{index_of}
use Rattle.run_events.specs.declared.stress.StressIndex.{StressIndex}
use Rattle.run_laws.proofs.board.OnBoard.{units-at}
use Rattle.run_laws.proofs.board.Ordered.{some_reach}
use Rattle.run_laws.proofs.board.Ordered.{board_over, done_reach, over_kept}
use Rattle.run_laws.proofs.board.OnBoard.{index_in}
use Rattle.run_laws.proofs.told.Bounds.{begin_cases, end_cases}

-- each script before the one that is admitted is over
open_before : (us : List (Option UnitView)) (i j : ℕ) → open_script us ≡ Some i → j < i
    → is_done (get_or us j None) ≡ true
open_before [] i j e below = cc
open_before (None ∷ us) i j e below = let first : 0 ≡ i = same_Some _ _ e in absurd (omega arith)
open_before (Some u ∷ us) i j e below = by_last (is_last u.phase) refl j below e (λ n k. open_before us n k)
  where
    by_rest : (o : Option ℕ) → open_script us ≡ o → (j : ℕ) → j < i → is_last u.phase ≡ true
        → option_map (λ n. n + 1) o ≡ Some i
        → ((n k : ℕ) → open_script us ≡ Some n → k < n → is_done (get_or us k None) ≡ true)
        → is_done (get_or (Some u ∷ us) j None) ≡ true
    by_rest None is j below last e rest = cc
    by_rest (Some n) is zero below last e rest = last
    by_rest (Some n) is (suc k) below last e rest =
        let next : n + 1 ≡ i = same_Some _ _ e in rest n k is (omega arith)

    by_last : (b : Bool) → is_last u.phase ≡ b → (j : ℕ) → j < i
        → (if b then option_map (λ n. n + 1) (open_script us) else None) ≡ Some i
        → ((n k : ℕ) → open_script us ≡ Some n → k < n → is_done (get_or us k None) ≡ true)
        → is_done (get_or (Some u ∷ us) j None) ≡ true
    by_last true last j below e rest = by_rest (open_script us) refl j below last e rest
    by_last false last j below e rest = cc

pub comes_after : (p : Settings) (index : Option StressIndex) (run : List Happening) (new : Newcomer)
    → newcomer p index (units p run) ≡ Some new → (j : ℕ)
    → j < number new.unit → j < scripts_in p → is_done (unit_of j run) ≡ true
comes_after p index run new e j below within = by_scripts (scripts_over p (units p run)) refl e
  where
    us : List (Option UnitView)
    us = units p run

    there : is_done (get_or (scripts_of p us) j None) ≡ true → is_done (unit_of j run) ≡ true
    there done =
        sym (ap is_done (get_or-take (scripts_in p) us j None within ∙ units-at p run j (omega arith))) ∙ done

    by_script : (i : ℕ) (o : Option PlanScript) → open_script (scripts_of p us) ≡ Some i
        → script_newcomer p index i o ≡ Some new
        → is_done (unit_of j run) ≡ true
    by_script i None opens e = cc
    by_script i (Some script) opens e =
        let new_is : started_newcomer (script_view p index i script) ≡ new = same_Some _ _ e in
        let named : i ≡ number new.unit = ap (λ (n : Newcomer). number n.unit) new_is in
        there (open_before (scripts_of p us) i j opens (omega arith))

    by_open : (o : Option ℕ) → open_script (scripts_of p us) ≡ o
        → option_and_then (λ i. script_newcomer p index i (slice_get p.plan.scripts i)) o ≡ Some new
        → is_done (unit_of j run) ≡ true
    by_open None opens e = cc
    by_open (Some i) opens e = by_script i (slice_get p.plan.scripts i) opens e

    by_scripts : (b : Bool) → scripts_over p us ≡ b → (if b
        then test_newcomer p index us
        else option_and_then (λ i. script_newcomer p index i (slice_get p.plan.scripts i))
        (open_script (scripts_of p us)))
        ≡ Some new → is_done (unit_of j run) ≡ true
    by_scripts true over e = board_over p run over j within
    by_scripts false over e = by_open (open_script (scripts_of p us)) refl e

-- a unit joins as one that is admitted
pub record Came (p : Settings) (b : Board) (first : UnitView) : Type 0 where
  pub new : Newcomer
  pub is : newcomer p (index_of b.dispatcher) b.units ≡ Some new
  pub unit : new.unit ≡ first

acts_not : (b : Board) (k : ℕ) (turn : UnitTurn) (v : Option UnitView) (first : UnitView)
    → (taken_deed b.clock k turn v).part ≡ Some (Joins first) → ⊥
acts_not b k turn None first is = cc
acts_not b k turn (Some u) first is = let never : Acts k turn ≡ Joins first = same_Some _ _ is in cc

caused_part : (now : Moment) (t : _) (o : Option Cause) (d : Deed) → (caused now t o d).part ≡ d.part
caused_part now t None d = refl
caused_part now t (Some cause) d = refl

delivery_not : (b : Board) (q : List Message) (first : UnitView) → (delivery b q).part ≡ Some (Joins first) → ⊥
delivery_not b [] first is = cc
delivery_not b (m ∷ rest) first is =
    by_answer (starting m) (go_of b.dispatcher.tally m)
    (sym (caused_part (moment_by b.clock b.dispatcher.watch) (tally_with b (event_of b m))
    (cause_of b.dispatcher.rules (tally_with b (event_of b m)) m)
    (delivered_as b m (answer_to b (starting m) (go_of b.dispatcher.tally m)))) ∙ is)
  where
    by_answer : (o : Option ℕ) (go : Option Bool) → (answer_to b o go).part ≡ Some (Joins first) → ⊥
    by_answer (Some k) (Some go) is = acts_not b k _ _ first is
    by_answer None go is = cc
    by_answer (Some k) None is = cc

pub joins_is : (p : Settings) (b : Board) (turn : Turn) (first : UnitView)
    → takes_turn p b turn (turn_of_unit turn) ≡ true
    → (deed_on p b turn).part ≡ Some (Joins first) → Came p b first
joins_is p b turn first en is =
    by_turn (λ turn named. takes_turn p b turn named ≡ true → (done_by p b turn named).part ≡ Some (Joins first)
    → Came p b first)
    (record {
      begin = λ en. begin_cases (λ d. d.part ≡ Some (Joins first) → Came p b first)
          (λ told after own later is. cc) b.clock b.dispatcher;
      admit = λ en is. admits (newcomer p (index_of b.dispatcher) b.units) refl is;
      deliver = λ en is. absurd (delivery_not b b.queue first is);
      clock = λ ns en is. cc;
      signal = λ signal en is. aside_not _
          (by_signal (λ d. d.part ≡ None) b.clock (live_in b.units) b.dispatcher signal
          (heard_by b.dispatcher.rules.hearing signal) refl (λ d aside. aside.part)) is;
      global_due = λ en is. cc;
      report_cancel = λ en is. cc;
      end = λ en. end_cases (λ d. d.part ≡ Some (Joins first) → Came p b first)
          (λ told after over own later is. cc) b.clock b.dispatcher;
      named = λ turn k to other en is. absurd (acts_not b k to _ first is);
      key = λ key en is. aside_not _ (key_aside b.clock (live_in b.units) b.dispatcher
          (heard_key b.dispatcher.rules.hearing.input key)).part is;
      tick = λ en is. cc;
      stop_wait_due = λ en is. cc;
      answer = λ en is. aside_not _ (answer_aside b (oldest_of b.answers)).part is;
      info_due = λ en is. cc;
    })
    turn en is
  where
    aside_not : (part : Option UnitPart) → part ≡ None → part ≡ Some (Joins first) → Came p b first
    aside_not part none is = let never : None ≡ Some (Joins first) = sym none ∙ is in cc

    admits : (o : Option Newcomer) → newcomer p (index_of b.dispatcher) b.units ≡ o
        → (admission o).part ≡ Some (Joins first) → Came p b first
    admits None at is = cc
    admits (Some new) at is =
        let same : Joins new.unit ≡ Joins first = same_Some _ _ is in record { new = new; is = at; unit = cc }

-- a script that is over after one more turn, and each before one that is admitted with it
pub over_after : (p : Settings) (now : ℕ) (run : List Happening) (e : Entry) (d : Deed) (k : ℕ)
    → PartFits p now run d.part
    → is_done (unit_of k run) ≡ true → is_done (unit_of k (said now e d ∷ run)) ≡ true
over_after p now run e d k fits done =
    done_reach d.request (unit_after now k d.part (unit_of k run))
    (ap is_done (over_kept p run now k d.part done fits) ∙ done)

pub each_over : (p : Settings) (now : ℕ) (run : List Happening) (part : Option UnitPart) (j k : ℕ)
    → ((first : UnitView) → part ≡ Some (Joins first) → (j : ℕ) → j < number first → j < scripts_in p
    → is_done (unit_of j run) ≡ true)
    → (is_some (unit_of k run) ≡ true → is_done (unit_of j run) ≡ true) → j < k → k < scripts_in p
    → is_some (unit_after now k part (unit_of k run)) ≡ true → is_done (unit_of j run) ≡ true
each_over p now run None j k joins was below within some = was some
each_over p now run (Some (Joins first)) j k joins was below within some = by_unit (number first == k) refl some
  where
    by_unit : (b : Bool) → (number first == k) ≡ b → is_some (if b then Some first else unit_of k run) ≡ true
        → is_done (unit_of j run) ≡ true
    by_unit true e some = let here : number first ≡ k = grind arith in joins first refl j (omega arith) (omega arith)
    by_unit false e some = was some
each_over p now run (Some (Acts i turn)) j k joins was below within some = by_unit (i == k) some
  where
    still : (v : Option UnitView) → is_some (option_map (λ v. (row now turn v).next) v) ≡ true → is_some v ≡ true
    still None e = e
    still (Some u) e = refl

    by_unit : (b : Bool)
        → is_some (if b then option_map (λ v. (row now turn v).next) (unit_of k run) else unit_of k run) ≡ true
        → is_done (unit_of j run) ≡ true
    by_unit true some = was (still (unit_of k run) some)
    by_unit false some = was some
