-- What a turn answers to queries is what the row of its unit answers.
use Rattle.std.proofs.Common.{◌≡◌, ℕ, List, [], ◌∷◌, Bool, true, false, Option, Some, None, option_map, unwrap_or}
use Rattle.std.proofs.Common.{refl, ap, sym, subst, ◌∙◌}
use Rattle.run_events.specs.Hearing.{heard_key}
use Rattle.run_events.specs.declared.info.InfoResponse.{InfoResponse}
use Rattle.run_events.specs.declared.message.Message.{Message}
use Rattle.run_events.specs.declared.settings.Settings.{Settings}
use Rattle.run_events.specs.declared.turn.Turn.{Turn}
use Rattle.run_model.specs.declared.dispatcher_view.Tally.{Tally}
use Rattle.run_model.specs.declared.entry.Entry.{Entry}
use Rattle.run_model.specs.declared.happening.Happening.{Happening}
use Rattle.run_model.specs.declared.happening.UnitPart.{UnitPart}
use Rattle.run_model.specs.declared.happening.UnitPart.TheVariants.{Joins, Acts}
use Rattle.run_model.specs.declared.unit_turn.UnitTurn.{UnitTurn}
use Rattle.run_model.specs.declared.unit_turn.UnitTurn.TheVariants.{Answered}
use Rattle.run_model.specs.declared.unit_view.UnitView.{UnitView}
use Rattle.run_model.specs.Admission.{Newcomer, newcomer}
use Rattle.run_model.specs.Board.{Board, Deed, board, unit_in}
use Rattle.run_model.specs.Cancel.{Cause, cause_of, caused}
use Rattle.run_model.specs.Dispatch.{Moment, go_of, heard_by, moment_by}
use Rattle.run_model.specs.Turns.{admission, answer_to, deed_on, delivery, done_by}
use Rattle.run_model.specs.Turns.{message_deed, live_in, oldest_of, starting}
use Rattle.run_model.specs.Turns.{enabled, index_of, taken_deed, tally_by}
use Rattle.run_model.specs.Unit.{row}
use Rattle.run_model.specs.Words.{clock, sub_run, unit_of}
use Rattle.run_laws.proofs.board.ByTurn.{by_turn}
use Rattle.run_laws.proofs.board.Holds.{Holds}
use Rattle.run_laws.proofs.board.DeedFits.{Does, PartFits}
use Rattle.run_laws.proofs.board.Deeds.{base_of}
use Rattle.run_laws.proofs.board.Kept.{HoldsAfter, IsOfRun, does_after}
use Rattle.run_laws.proofs.board.OnBoard.{frame_of, unit_in-is}
use Rattle.run_laws.proofs.told.Asides.{IsAside, answer_aside, by_signal, inform_aside, key_aside, stop_aside}
use Rattle.run_laws.proofs.told.Asides.{tick_aside}
use Rattle.run_laws.proofs.told.Bounds.{begin_cases, end_cases}

-- what a part answers, by the units
abbrev pub info_as : ℕ → (ℕ → Option UnitView) → Option UnitPart → List (ℕ × InfoResponse)
info_as now unit (Some (Acts j turn)) = unwrap_or (option_map (λ v. (row now turn v).info) (unit j)) []
info_as now unit part = []

abbrev IsInfo : Board → Deed → Type 0
IsInfo b d = d.info ≡ info_as b.clock (unit_in b) d.part

taken_info : (b : Board) (k : ℕ) (turn : UnitTurn) → IsInfo b (taken_deed b.clock k turn (unit_in b k))
taken_info b k turn = by_unit (unit_in b k) refl
  where
    by_unit : (u : Option UnitView) → unit_in b k ≡ u → IsInfo b (taken_deed b.clock k turn u)
    by_unit None is = refl
    by_unit (Some u) is = sym (ap (λ v. unwrap_or (option_map (λ v. (row b.clock turn v).info) v) []) is)

aside_info : (b : Board) (d : Deed) → IsAside d → IsInfo b d
aside_info b d aside = aside.info ∙ sym (ap (info_as b.clock (unit_in b)) aside.part)

caused_info : (b : Board) (now : Moment) (t : Tally) (o : Option Cause) (d : Deed) → IsInfo b d
    → IsInfo b (caused now t o d)
caused_info b now t None d is = is
caused_info b now t (Some cause) d is = is

answer_info : (b : Board) (k : Option ℕ) (go : Option Bool) → IsInfo b (answer_to b k go)
answer_info b (Some k) (Some go) = taken_info b k (Answered go)
answer_info b (Some k) None = refl
answer_info b None go = refl

delivery_info : (b : Board) (q : List Message) → IsInfo b (delivery b q)
delivery_info b [] = refl
delivery_info b (m ∷ rest) =
    let t : Tally = tally_by b.clock b.dispatcher m in
    let answer : Deed = answer_to b (starting m) (go_of b.dispatcher.tally m) in
    caused_info b (moment_by b.clock b.dispatcher.watch) t (cause_of b.dispatcher.rules t m)
    (message_deed b.clock b.dispatcher m answer) (answer_info b (starting m) (go_of b.dispatcher.tally m))

admission_info : (b : Board) (o : Option Newcomer) → IsInfo b (admission o)
admission_info b None = refl
admission_info b (Some new) = refl

pub info_is : (p : Settings) (b : Board) (turn : Turn)
    → (deed_on p b turn).info ≡ info_as b.clock (unit_in b) (deed_on p b turn).part
info_is p b turn =
    by_turn (λ turn named. IsInfo b (done_by p b turn named))
    (record {
      begin = begin_cases (IsInfo b) (λ told after own later. refl) b.clock b.dispatcher;
      admit = admission_info b (newcomer p (index_of b.dispatcher) b.units);
      deliver = delivery_info b b.queue;
      named = λ turn k to other. taken_info b k to;
      clock = λ ns. refl;
      signal = λ signal. by_signal (IsInfo b) b.clock (live_in b.units) b.dispatcher signal
          (heard_by b.dispatcher.rules.hearing signal) refl (aside_info b);
      global_due = refl;
      report_cancel = refl;
      end = end_cases (IsInfo b) (λ told after over own later. refl) b.clock b.dispatcher;
      key = λ key. aside_info b _ (key_aside b.clock (live_in b.units) b.dispatcher
          (heard_key b.dispatcher.rules.hearing.input key));
      tick = aside_info b _ tick_aside;
      stop_wait_due = aside_info b _ stop_aside;
      answer = aside_info b _ (answer_aside b (oldest_of b.answers));
      info_due = aside_info b _ (inform_aside b.clock b.dispatcher);
    })
    turn

-- so after a history
abbrev pub info_by : ℕ → List Happening → Option UnitPart → List (ℕ × InfoResponse)
info_by now run part = info_as now (λ k. unit_of k run) part

pub answers_as : (p : Settings) (past : List Happening) (turn : Turn)
    → Holds p (clock past) (sub_run past)
    → (deed_on p (board p past) turn).info ≡ info_by (clock past) (sub_run past) (deed_on p (board p past) turn).part
answers_as p past turn h = info_is p (board p past) turn ∙ by_part (deed_on p (board p past) turn).part
  where
    by_part : (part : Option UnitPart)
        → info_as (clock past) (unit_in (board p past)) part ≡ info_by (clock past) (sub_run past) part
    by_part None = refl
    by_part (Some (Joins first)) = refl
    by_part (Some (Acts j turn)) =
        ap (λ v. unwrap_or (option_map (λ v. (row (clock past) turn v).info) v) [])
        (unit_in-is p (clock past) (sub_run past) j h)

-- a turn has its part in the newest sub-run, where it doesn't begin one
pub part_fits : (p : Settings) (past : List Happening) (e : Entry) → HoldsAfter p past → enabled p past e.turn ≡ true
    → PartFits p (clock past) (sub_run past) (deed_on p (board p past) e.turn).part
part_fits p past e h en = by_begin d.begins refl (does_after p past e h en)
  where
    d : Deed
    d = deed_on p (board p past) e.turn

    by_begin : (b : Bool) → d.begins ≡ b → Does p (frame_of p past) (clock past) (base_of b (sub_run past)) d
        → PartFits p (clock past) (sub_run past) d.part
    by_begin true is does = subst (PartFits p (clock past) (sub_run past)) (sym (does.marks.begins is).1.part) tt
    by_begin false is does = does.part

-- and it answers by the sub-run that it joins
pub answers_in : (p : Settings) (past : List Happening) (e : Entry) → HoldsAfter p past → (of : IsOfRun p past e)
    → (deed_on p (board p past) e.turn).info ≡ info_by (clock past) of.base (deed_on p (board p past) e.turn).part
answers_in p past e h of = by_begin d.begins refl
  where
    d : Deed
    d = deed_on p (board p past) e.turn

    by_begin : (b : Bool) → d.begins ≡ b → d.info ≡ info_by (clock past) of.base d.part
    by_begin true is =
        let nothing = (of.does.marks.begins is).1 in
        nothing.info ∙ sym (ap (info_by (clock past) of.base) nothing.part)
    by_begin false is =
        answers_as p past e.turn h
        ∙ ap (λ run. info_by (clock past) run d.part) (sym (of.is ∙ ap (λ b. base_of b (sub_run past)) is))
