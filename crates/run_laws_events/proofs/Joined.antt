-- A unit that joins is what an admission makes.
use Rattle.std.proofs.Common.{◌≡◌, ℕ, List, [], ◌∷◌, Bool, true, not, Option, Some, None, refl, sym, ◌∙◌}
use Rattle.std.specs.Cmp.{second_so}
use Rattle.run_events.specs.declared.settings.Settings.{Settings}
use Rattle.run_events.specs.declared.message.Message.{Message}
use Rattle.run_events.specs.declared.message.Message.TheVariants.{ScriptStart, ScriptFinish, Start, Retry, Finish}
use Rattle.run_events.specs.declared.turn.Turn.{Turn}
use Rattle.run_model.specs.declared.dispatcher_view.Tally.{Tally}
use Rattle.run_model.specs.declared.happening.Happening.{Happening}
use Rattle.run_model.specs.declared.happening.UnitPart.TheVariants.{Joins}
use Rattle.run_model.specs.declared.unit_turn.UnitTurn.{UnitTurn}
use Rattle.run_model.specs.declared.unit_view.UnitView.{UnitView}
use Rattle.run_model.specs.Admission.{Newcomer, newcomer}
use Rattle.run_model.specs.Board.{Board, Deed}
use Rattle.run_model.specs.Cancel.{Cause, cause_of, caused}
use Rattle.run_model.specs.Turns.{admission, deed_on, delivered_as, delivery, done_by, enabled_on, event_of}
use Rattle.run_model.specs.Turns.{live_in, nothing_done, oldest_of, takes_turn, tally_with, taken_deed, turn_of_unit}
use Rattle.run_model.specs.Dispatch.{Moment, heard_by}
use Rattle.run_events.specs.Hearing.{heard_key}
use Rattle.run_model.specs.Words.{queue, units}
use Rattle.run_laws.proofs.board.ByTurn.{by_turn}
use Rattle.run_laws.proofs.board.OnBoard.{board_of, board_with, moment_in}
use Rattle.run_laws.proofs.told.Asides.{IsAside, answer_aside, by_signal, key_aside}
use Rattle.run_laws.proofs.board.OnBoard.{Frame}
use Rattle.run_laws.proofs.board.OnBoard.{index_in}
use Rattle.run_laws.proofs.told.Bounds.{begin_cases, end_cases}

-- the unit that a deed lets join, and what it sends, are those of an admission
abbrev pub IsAdmission : Option Newcomer → Deed → Type 0
IsAdmission o d = (first : UnitView) → d.part ≡ Some (Joins first)
    → (new : Newcomer) × ((o ≡ Some new) × (first ≡ new.unit) × (d.sent ≡ Some new.sent))

admits : (o : Option Newcomer) → IsAdmission o (admission o)
admits None first is = cc
admits (Some new) first is = let same : new.unit ≡ first = cc in (new, (refl, sym same, refl))

acts_only : (o : Option Newcomer) (now k : ℕ) (turn : UnitTurn) (v : Option UnitView)
    → IsAdmission o (taken_deed now k turn v)
acts_only o now k turn None first is = cc
acts_only o now k turn (Some u) first is = cc

caused_part : (now : Moment) (t : Tally) (o : Option Cause) (d : Deed) → (caused now t o d).part ≡ d.part
caused_part now t None d = refl
caused_part now t (Some c) d = refl

answered_only : (now k : ℕ) (turn : UnitTurn) (v : Option UnitView) (first : UnitView)
    → (taken_deed now k turn v).part ≡ Some (Joins first) → ⊥
answered_only now k turn None first is = cc
answered_only now k turn (Some u) first is = cc

delivers : (p : Settings) (f : Frame) (now : ℕ) (run : List Happening) (o : Option Newcomer) (q : List Message)
    → IsAdmission o (delivery (board_of p f now run) q)
delivers p f now run o [] first is = cc
delivers p f now run o (ScriptStart start ∷ rest) first is = absurd (answered_only now _ _ _ first is)
delivers p f now run o (Start start ∷ rest) first is = absurd (answered_only now _ _ _ first is)
delivers p f now run o (Retry retry ∷ rest) first is = absurd (answered_only now _ _ _ first is)
delivers p f now run o (Finish finish ∷ rest) first is =
    let b : Board = board_of p f now run in
    let part = caused_part (moment_in now f) (tally_with b (event_of b (Finish finish)))
    (cause_of b.dispatcher.rules (tally_with b (event_of b (Finish finish))) (Finish finish))
    (delivered_as b (Finish finish) nothing_done) in
    let never : None ≡ Some (Joins first) = sym part ∙ is in cc
delivers p f now run o (ScriptFinish finish ∷ rest) first is =
    let b : Board = board_of p f now run in
    let part = caused_part (moment_in now f) (tally_with b (event_of b (ScriptFinish finish)))
    (cause_of b.dispatcher.rules (tally_with b (event_of b (ScriptFinish finish))) (ScriptFinish finish))
    (delivered_as b (ScriptFinish finish) nothing_done) in
    let never : None ≡ Some (Joins first) = sym part ∙ is in cc
delivers p f now run o (m ∷ rest) first is = cc

aside_joins : (o : Option Newcomer) (d : Deed) → IsAside d → IsAdmission o d
aside_joins o d aside first is = let never : None ≡ Some (Joins first) = sym aside.part ∙ is in cc

pub joins_new : (p : Settings) (f : Frame) (refused : Bool) (now : ℕ) (run : List Happening) (turn : Turn)
    → enabled_on p (board_with p refused f now run) turn ≡ true
    → IsAdmission (newcomer p (index_in p f) (units p run)) (deed_on p (board_with p refused f now run) turn)
joins_new p f refused now run turn en =
    by_turn (λ turn named. takes_turn p b turn named ≡ true → IsAdmission new (done_by p b turn named))
    (record {
      begin = λ en. begin_cases (IsAdmission new) (λ told after own later first is. cc) b.clock b.dispatcher;
      admit = λ en. admits new;
      deliver = λ en. delivers p f now run new (queue run);
      named = λ turn k to other en. acts_only new now k to _;
      clock = λ ns en first is. cc;
      signal = λ signal en. by_signal (IsAdmission new) now (live_in b.units) b.dispatcher signal
          (heard_by b.dispatcher.rules.hearing signal) (λ first is. cc) (λ d aside. aside_joins new d aside);
      global_due = λ en first is. cc;
      report_cancel = λ en first is. cc;
      end = λ en. end_cases (IsAdmission new) (λ told after over own later first is. cc) b.clock b.dispatcher;
      key = λ key en. aside_joins new _ (key_aside now (live_in b.units) b.dispatcher
          (heard_key b.dispatcher.rules.hearing.input key));
      tick = λ en first is. cc;
      stop_wait_due = λ en first is. cc;
      answer = λ en. aside_joins new _ (answer_aside b (oldest_of b.answers));
      info_due = λ en first is. cc;
    })
    turn (second_so (not f.over) (takes_turn p b turn (turn_of_unit turn)) en)
  where
    b : Board
    b = board_with p refused f now run

    new : Option Newcomer
    new = newcomer p (index_in p f) (units p run)
