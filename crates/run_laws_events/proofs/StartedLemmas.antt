-- The starts that are told have the slots that the plan gives.
use Rattle.std.proofs.Common.{◌≡◌, ◌⊎◌, inl, inr, ℕ, ◌<◌, List, [], ◌∷◌, ◌++◌, Bool, true, not, Option, Some}
use Rattle.std.proofs.Common.{None, option_and_then, option_to_list, refl, ap, sym, subst, ◌∙◌}
use Rattle.std.specs.Prelude.{⊤, IfSome}
use Rattle.std.specs.Cmp.{second_so}
use Rattle.std.specs.List.{All}
use Rattle.std.proofs.lemmas.List.Elements.{All-nil, All-cons, All-append, All-drop, All-head}
use Rattle.run_events.specs.declared.settings.Settings.{Settings}
use Rattle.run_events.specs.declared.turn.Turn.{Turn}
use Rattle.run_events.specs.declared.message.Message.{Message}
use Rattle.run_events.specs.declared.message.Message.TheVariants.{Start}
use Rattle.run_events.specs.declared.events.ReporterEvent.{ReporterEvent}
use Rattle.run_events.specs.declared.events.ReporterEvent.TheVariants.{Tick, Test}
use Rattle.run_events.specs.declared.events.TestEventKind.{TestEventKind}
use Rattle.run_events.specs.declared.events.TestEventKind.TheVariants.{SetupScriptStarted, TestStarted, RunBeginCancel}
use Rattle.run_events.specs.declared.events.TestEventKind.TheVariants.{RunBeginKill}
use Rattle.run_model.specs.declared.dispatcher_view.Tally.{Tally}
use Rattle.run_model.specs.declared.entry.Entry.{Entry}
use Rattle.run_model.specs.declared.happening.Happening.{Happening}
use Rattle.run_model.specs.declared.happening.UnitPart.{UnitPart}
use Rattle.run_model.specs.declared.happening.UnitPart.TheVariants.{Joins, Acts}
use Rattle.run_model.specs.declared.unit_turn.UnitTurn.{UnitTurn}
use Rattle.run_model.specs.declared.unit_turn.UnitTurn.TheVariants.{Answered}
use Rattle.run_model.specs.declared.unit_view.UnitView.{UnitView}
use Rattle.run_model.specs.Unit.{at_moment, row}
use Rattle.run_model.specs.Words.{clock, delivered, is_over, queue, sent, sub_run, told}
use Rattle.run_model.specs.Admission.{scripts_in, Newcomer, newcomer}
use Rattle.run_model.specs.Dispatch.{Moment, moment_by, heard_by, go_of}
use Rattle.run_model.specs.Board.{Board, Deed, board, said, unit_in}
use Rattle.run_model.specs.Cancel.{Cause, cause_of, caused}
use Rattle.run_model.specs.Turns.{enabled_on, takes_turn, turn_of_unit, admission, starting, answer_to, event_of}
use Rattle.run_model.specs.Turns.{tally_with, taken_deed, delivered_as, delivery, done_by, deed_on, live_in, oldest_of}
use Rattle.run_model.specs.Journal.{history, IsLegalBackward}
use Rattle.run_laws.proofs.board.ByTurn.{by_turn}
use Rattle.run_laws.proofs.told.Cancels.{IsAfter, IsAfterKind}
use Rattle.run_laws.proofs.told.Asides.{IsAside, answer_aside, by_signal, key_aside}
use Rattle.run_events.specs.Hearing.{heard_key}
use Rattle.run_laws.proofs.board.DeedFits.{cancel_told, ToldFits, ToldFitsIn, IsInOrder, PartFits, IsSentAs, Does}
use Rattle.run_laws.proofs.units.FaceLemmas.{said_in, SendsNoStart, row_sends_none}
use Rattle.run_laws.proofs.board.Kept.{HoldsAfter, from_base, IsOfRun, IsBeforeRuns, where_joins, holds}
use Rattle.run_laws.proofs.units.Rows.{takes_moment}
use Rattle.run_laws_events.proofs.SlotLemmas.{StartFits, MessageFits, newcomer_fits}
use Rattle.run_laws.proofs.board.OnBoard.{Frame}
use Rattle.run_laws.proofs.board.OnBoard.{frame_of}
use Rattle.run_laws.proofs.told.Bounds.{begin_cases, end_cases}
use Rattle.run_events.specs.declared.events.TestEventKind.TheVariants.{RunFinished, StressSubRunStarted}
use Rattle.run_model.specs.Turns.{index_of}

-- the message of a unit that joins fits
JoinsFit : Settings → Deed → Type 0
JoinsFit p d = (first : UnitView) → d.part ≡ Some (Joins first) → IfSome d.sent (MessageFits p)

caused_joins : (p : Settings) (now : Moment) (t : Tally) (o : Option Cause) (d : Deed) → JoinsFit p d
    → JoinsFit p (caused now t o d)
unfolding JoinsFit
caused_joins p now t None d h = h
caused_joins p now t (Some cause) d h = h

admission_joins : (p : Settings) (b : Board) (o : Option Newcomer) → newcomer p (index_of b.dispatcher) b.units ≡ o
    → JoinsFit p (admission o)
unfolding JoinsFit
admission_joins p b None is = λ first e. cc
admission_joins p b (Some new) is = λ first e. newcomer_fits p (index_of b.dispatcher) b.units new is

taken_joins : (p : Settings) (now k : ℕ) (turn : UnitTurn) (v : Option UnitView) → JoinsFit p (taken_deed now k turn v)
unfolding JoinsFit
taken_joins p now k turn None = λ first e. cc
taken_joins p now k turn (Some u) = λ first e. cc

answer_joins : (p : Settings) (b : Board) (m : Message) (o : Option ℕ) (go : Option Bool)
    → JoinsFit p (delivered_as b m (answer_to b o go))
unfolding JoinsFit
answer_joins p b m (Some k) (Some go) = taken_joins p b.clock k (Answered go) (unit_in b k)
answer_joins p b m (Some k) None = λ first e. cc
answer_joins p b m None go = λ first e. cc

delivery_joins : (p : Settings) (b : Board) (q : List Message) → JoinsFit p (delivery b q)
unfolding JoinsFit
delivery_joins p b [] = λ first e. cc
delivery_joins p b (m ∷ rest) =
    let tells : Option ReporterEvent = event_of b m in
    caused_joins p (moment_by b.clock b.dispatcher.watch) (tally_with b tells)
    (cause_of b.dispatcher.rules (tally_with b tells) m)
    (delivered_as b m (answer_to b (starting m) (go_of b.dispatcher.tally m)))
    (answer_joins p b m (starting m) (go_of b.dispatcher.tally m))

aside_joins : (p : Settings) (d : Deed) → IsAside d → JoinsFit p d
unfolding JoinsFit
aside_joins p d aside = λ first e. let never : None ≡ Some (Joins first) = sym aside.part ∙ e in cc

joins_fit : (p : Settings) (b : Board) (turn : Turn) → enabled_on p b turn ≡ true → JoinsFit p (deed_on p b turn)
unfolding JoinsFit
joins_fit p b turn en =
    by_turn (λ turn named. takes_turn p b turn named ≡ true → JoinsFit p (done_by p b turn named))
    (record {
      begin = λ en. begin_cases (JoinsFit p) (λ told after own later first e. cc) b.clock b.dispatcher;
      admit = λ en. admission_joins p b (newcomer p (index_of b.dispatcher) b.units) refl;
      deliver = λ en. delivery_joins p b b.queue;
      named = λ turn k to other en. taken_joins p b.clock k to (unit_in b k);
      clock = λ ns en first e. cc;
      signal = λ signal en. by_signal (JoinsFit p) b.clock (live_in b.units) b.dispatcher signal
          (heard_by b.dispatcher.rules.hearing signal) (λ first e. cc) (aside_joins p);
      global_due = λ en first e. cc;
      report_cancel = λ en first e. cc;
      end = λ en. end_cases (JoinsFit p) (λ told after over own later first e. cc) b.clock b.dispatcher;
      key = λ key en. aside_joins p _ (key_aside b.clock (live_in b.units) b.dispatcher
          (heard_key b.dispatcher.rules.hearing.input key));
      tick = λ en first e. cc;
      stop_wait_due = λ en first e. cc;
      answer = λ en. aside_joins p _ (answer_aside b (oldest_of b.answers));
      info_due = λ en first e. cc;
    })
    turn (second_so (not b.dispatcher.over) (takes_turn p b turn (turn_of_unit turn)) en)

-- so each message that is sent fits: a unit's own turn sends no start
no_start_fits : (p : Settings) (o : Option Message) → SendsNoStart o → IfSome o (MessageFits p)
no_start_fits p None h = tt
no_start_fits p (Some (Start start)) h = cc
no_start_fits p (Some m) h = tt

sent_fits : (p : Settings) (now : ℕ) (run : List Happening) (d : Deed) (part : Option UnitPart) → d.part ≡ part
    → PartFits p now run part → IsSentAs now run part d.sent → JoinsFit p d → IfSome d.sent (MessageFits p)
unfolding JoinsFit
sent_fits p now run d None is fits from joins = subst (λ o. IfSome o (MessageFits p)) (sym from) tt
sent_fits p now run d (Some (Joins first)) is fits from joins = joins first is
sent_fits p now run d (Some (Acts j turn)) is taken from joins =
    let u : UnitView = taken.unit in
    let sends : d.sent ≡ (row now turn u).sent =
    from ∙ ap (option_and_then (λ v. (row now turn v).sent)) taken.is in
    subst (λ o. IfSome o (MessageFits p)) (sym sends)
    (no_start_fits p (row now turn u).sent
    (row_sends_none now u.phase turn (at_moment now u) refl (takes_moment now u.phase u turn taken.takes)))

-- a start that is told fits: that of a script has the number of one, and that of a test the slots of the plan
abbrev pub KindFits : Settings → TestEventKind → Type 0
KindFits p (SetupScriptStarted event) = event.script.unit < scripts_in p
KindFits p (TestStarted event) = StartFits p event.start
KindFits p _ = ⊤

abbrev pub EventFits : Settings → ReporterEvent → Type 0
EventFits p (Test event) = KindFits p event.kind
EventFits p _ = ⊤

own_fits : (p : Settings) (run : List Happening) (event : ReporterEvent) → All (MessageFits p) (sent run)
    → ToldFits p (told run) (Some event) → IsInOrder p run event → EventFits p event
own_fits p run Tick sends fits order = tt
own_fits p run (Test event) sends fits order = by_kind event.kind fits order.said
  where
    by_kind : (kind : TestEventKind) → ToldFitsIn p (told run) kind
        → ((m : Message) → said_in kind ≡ Some m → (rest : List Message) × (queue run ≡ m ∷ rest)) → KindFits p kind
    by_kind (SetupScriptStarted event) fits said = fits.0
    by_kind (TestStarted event) fits said =
        let oldest = said (Start event.start) refl in
        All-head (MessageFits p) (Start event.start) oldest.0
        (subst (All (MessageFits p)) oldest.1 (All-drop (MessageFits p) (delivered run) (sent run) sends))
    by_kind kind fits said = tt

cancel_fits : (p : Settings) (event : ReporterEvent) → IsAfter (Some event) → EventFits p event
cancel_fits p Tick h = tt
cancel_fits p (Test event) h = by_kind event.kind h
  where
    by_kind : (kind : TestEventKind) → IsAfterKind kind → KindFits p kind
    by_kind (RunBeginCancel event) h = tt
    by_kind (RunBeginKill event) h = tt
    by_kind (StressSubRunStarted progress) h = tt
    by_kind (RunFinished finished) h = tt
    by_kind kind h = absurd h

-- what holds of the messages sent and the events told
record AreFit (p : Settings) (run : List Happening) : Type 0 where
  sends : All (MessageFits p) (sent run)
  tells : All (EventFits p) (told run)

each : {X : Type 0} (P : X → Type 0) (o : Option X) → ((x : X) → o ≡ Some x → P x) → All P (option_to_list o)
each P None h = All-nil P
each P (Some x) h = All-cons P x [] (h x refl) (All-nil P)

fit-cons : (p : Settings) (f : Frame) (now : ℕ) (run : List Happening) (e : Entry) (d : Deed) → Does p f now run d
    → JoinsFit p d → AreFit p run → AreFit p (said now e d ∷ run)
fit-cons p f now run e d does joins was = record {
  sends = All-append (MessageFits p) (sent run) (option_to_list d.sent) was.sends
      (each (MessageFits p) d.sent (λ m is. subst (λ o. IfSome o (MessageFits p)) is
      (sent_fits p now run d d.part refl does.part does.sent_as joins)));
  tells = All-append (EventFits p) (told run) (option_to_list d.told ++ option_to_list d.after) was.tells
      (All-append (EventFits p) (option_to_list d.told) (option_to_list d.after)
      (each (EventFits p) d.told (λ event is. own_fits p run event was.sends
      (subst (ToldFits p (told run)) is does.tells) (subst (λ o. IfSome o (IsInOrder p run)) is does.order)))
      (each (EventFits p) d.after (λ event is. cancel_fits p event (subst IsAfter is cancels))));
}
  where
    cancels : IsAfter d.after
    cancels = cancel_told p f now run d does.marks

fit-nil : (p : Settings) → AreFit p []
fit-nil p = record { sends = All-nil (MessageFits p); tells = All-nil (EventFits p) }

-- in the newest sub-run after every legal journal
are_fit : (p : Settings) (backward : List Entry) → IsLegalBackward p backward → AreFit p (sub_run (history p backward))
are_fit p [] legal = fit-nil p
are_fit p (e ∷ before) legal = one_more (are_fit p before legal.2) (holds p before legal.2)
  where
    past : List Happening
    past = history p before

    one_more : AreFit p (sub_run past) → HoldsAfter p past → AreFit p (sub_run (history p (e ∷ before)))
    one_more was h = by_run (where_joins p past e h legal.0)
      where
        by_run : IsOfRun p past e ⊎ IsBeforeRuns p past e → AreFit p (sub_run (history p (e ∷ before)))
        by_run (inl of) = subst (AreFit p) (sym of.joins)
            (fit-cons p (frame_of p past) (clock past) of.base e (deed_on p (board p past) e.turn) of.does
            (joins_fit p (board p past) e.turn legal.0) (from_base (AreFit p) p past e of (fit-nil p) was))
        by_run (inr none) = subst (AreFit p) (sym none.still) (fit-nil p)

pub told_fit : (p : Settings) (backward : List Entry) → IsLegalBackward p backward
    → All (EventFits p) (told (sub_run (history p backward)))
told_fit p backward legal = (are_fit p backward legal).tells
