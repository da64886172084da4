-- A sub-run begins with a begin, and that reads nothing of the sub-run before.
use Rattle.std.proofs.Common.{◌≡◌, ◌&&◌, ℕ, List, [], ◌∷◌, Bool, true, false, not, Option, Some, None, refl, ap, sym}
use Rattle.std.proofs.Common.{◌∙◌}
use Rattle.std.specs.Cmp.{first_so, second_so}
use Rattle.run_events.specs.declared.events.ReporterEvent.{ReporterEvent}
use Rattle.run_events.specs.declared.message.Message.{Message}
use Rattle.run_events.specs.declared.settings.Settings.{Settings}
use Rattle.run_events.specs.declared.turn.Turn.{Turn}
use Rattle.run_events.specs.declared.turn.Turn.TheVariants.{Begin, Admit, Deliver, Signal, Key, Answer, End}
use Rattle.run_events.specs.Hearing.{heard_key}
use Rattle.run_model.specs.declared.dispatcher_view.Tally.{Tally}
use Rattle.run_model.specs.declared.happening.Happening.{Happening}
use Rattle.run_model.specs.Admission.{Newcomer, newcomer}
use Rattle.run_model.specs.Board.{Board, Deed}
use Rattle.run_model.specs.Cancel.{Cause, cause_of, caused}
use Rattle.run_model.specs.Dispatch.{Moment, go_of, heard_by, moment_by}
use Rattle.run_model.specs.Turns.{admission, answer_to, deed_on, delivered_as, delivery, enabled_on, event_of, index_of}
use Rattle.run_model.specs.Turns.{live_in, oldest_of, starting, takes_turn, tally_with, turn_of_unit}
use Rattle.run_laws.proofs.board.OnBoard.{Frame, board_with}
use Rattle.run_laws.proofs.told.Asides.{answer_aside, by_signal, key_aside}
use Rattle.run_laws.proofs.told.Bounds.{end_cases}
use Rattle.std.proofs.Common.{subst}

-- no other turn begins one
pub caused_begins : (now : Moment) (t : Tally) (o : Option Cause) (d : Deed) → (caused now t o d).begins ≡ d.begins
caused_begins now t None d = refl
caused_begins now t (Some cause) d = refl

pub delivery_begins : (b : Board) (q : List Message) → (delivery b q).begins ≡ false
delivery_begins b [] = refl
delivery_begins b (m ∷ rest) =
    let tells : Option ReporterEvent = event_of b m in
    caused_begins (moment_by b.clock b.dispatcher.watch) (tally_with b tells)
    (cause_of b.dispatcher.rules (tally_with b tells) m)
    (delivered_as b m (answer_to b (starting m) (go_of b.dispatcher.tally m)))

pub admission_begins : (o : Option Newcomer) → (admission o).begins ≡ false
admission_begins None = refl
admission_begins (Some new) = refl

pub begins_only : (p : Settings) (b : Board) (turn : Turn) → (deed_on p b turn).begins ≡ true → turn ≡ Begin
begins_only p b Begin is = refl
begins_only p b Admit is =
    let never : false ≡ true = sym (admission_begins (newcomer p (index_of b.dispatcher) b.units)) ∙ is in cc
begins_only p b Deliver is = let never : false ≡ true = sym (delivery_begins b b.queue) ∙ is in cc
begins_only p b End is =
    let none : (deed_on p b End).begins ≡ false =
    end_cases (λ d. d.begins ≡ false) (λ told after over own later. refl) b.clock b.dispatcher in
    let never : false ≡ true = sym none ∙ is in cc
begins_only p b (Signal signal) is =
    let none : (deed_on p b (Signal signal)).begins ≡ false =
    by_signal (λ d. d.begins ≡ false) b.clock (live_in b.units) b.dispatcher signal
    (heard_by b.dispatcher.rules.hearing signal) refl (λ d aside. aside.begins) in
    let never : false ≡ true = sym none ∙ is in cc
begins_only p b (Key key) is =
    let aside = key_aside b.clock (live_in b.units) b.dispatcher (heard_key b.dispatcher.rules.hearing.input key) in
    let never : false ≡ true = sym aside.begins ∙ is in cc
begins_only p b Answer is =
    let never : false ≡ true = sym (answer_aside b (oldest_of b.answers)).begins ∙ is in cc
begins_only p b turn is = cc

-- so a turn that begins one is enabled, and does the same, where nothing has happened
pub record BeginsSo (p : Settings) (f : Frame) (refused : Bool) (now : ℕ) (run : List Happening) (turn : Turn) : Type 0
  where
    pub enabled : enabled_on p (board_with p refused f now []) turn ≡ true
    pub same : deed_on p (board_with p refused f now run) turn ≡ deed_on p (board_with p refused f now []) turn

pub begins_so : (p : Settings) (f : Frame) (refused : Bool) (now : ℕ) (run : List Happening) (turn : Turn)
    → enabled_on p (board_with p refused f now run) turn ≡ true
    → (deed_on p (board_with p refused f now run) turn).begins ≡ true → BeginsSo p f refused now run turn
begins_so p f refused now run turn en is =
    subst (BeginsSo p f refused now run) (sym (begins_only p b turn is)) (record {
      enabled = going f.over (first_so (not f.over) (takes_turn p b turn (turn_of_unit turn)) en);
      same = refl;
    })
  where
    b : Board
    b = board_with p refused f now run

    going : (over : Bool) → not over ≡ true → (not over && (true && not over)) ≡ true
    going false e = refl
    going true e = cc
