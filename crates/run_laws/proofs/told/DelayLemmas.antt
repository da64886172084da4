-- The delays that are told with failed attempts are those of a unit's own turns.
use Rattle.std.proofs.Common.{◌||◌, ◌≡◌, ◌⊎◌, inl, inr, ℕ, ◌==◌, List, [], ◌∷◌, ◌++◌, drop, Bool, true, false}
use Rattle.std.proofs.Common.{if◌then◌else◌}
use Rattle.std.proofs.Common.{Option, Some, None, option_and_then, option_map, option_to_list, refl, ap, sym, subst}
use Rattle.std.proofs.Common.{◌∙◌, arith, append-nil, append_assoc}
use Rattle.std.specs.Prelude.{IfSome}
use Rattle.run_events.specs.Hearing.{heard_key}
use Rattle.std.specs.List.{cons_option}
use Rattle.std.proofs.lemmas.List.Elements.{filter_map-append}
use Rattle.run_events.specs.declared.settings.Settings.{Settings}
use Rattle.run_events.specs.declared.events.ReporterEvent.{ReporterEvent}
use Rattle.run_events.specs.declared.events.ReporterEvent.TheVariants.{Tick, Test}
use Rattle.run_events.specs.declared.events.TestEventKind.{TestEventKind}
use Rattle.run_events.specs.declared.events.TestEventKind.TheVariants.{RunBeginCancel, RunBeginKill, RunPaused}
use Rattle.run_events.specs.declared.events.TestEventKind.TheVariants.{RunContinued, InfoStarted}
use Rattle.run_events.specs.declared.events.TestEventKind.TheVariants.{InfoResponse as InfoAnswer, InfoFinished}
use Rattle.run_events.specs.declared.events.TestEventKind.TheVariants.{InputEnter, SetupScriptStarted as ScriptStarted}
use Rattle.run_events.specs.declared.message.Message.{Message}
use Rattle.run_events.specs.declared.message.Message.TheVariants.{ScriptStart, ScriptSlow, ScriptFinish, Start, Slow}
use Rattle.run_events.specs.declared.message.Message.TheVariants.{AttemptFailed, Retry, Skip, Finish}
use Rattle.run_events.specs.declared.result.ExecuteStatus.{ExecuteStatus}
use Rattle.run_events.specs.declared.turn.Turn.{Turn}
use Rattle.run_model.specs.declared.dispatcher_view.Tally.{Tally}
use Rattle.run_model.specs.declared.entry.Entry.{Entry}
use Rattle.run_model.specs.declared.happening.Happening.{Happening}
use Rattle.run_model.specs.declared.happening.UnitPart.{UnitPart}
use Rattle.run_model.specs.declared.happening.UnitPart.TheVariants.{Joins, Acts}
use Rattle.run_model.specs.declared.phase.Phase.{Phase}
use Rattle.run_model.specs.declared.phase.Phase.TheVariants.{Delay}
use Rattle.run_model.specs.declared.unit_turn.UnitTurn.{UnitTurn}
use Rattle.run_model.specs.declared.unit_view.UnitRole.{UnitRole}
use Rattle.run_model.specs.declared.unit_view.UnitRole.TheVariants as roles
use Rattle.run_model.specs.declared.unit_view.UnitView.{UnitView}
use Rattle.run_model.specs.Environment.{number_of, number}
use Rattle.run_model.specs.Admission.{start_message, unit_terms, Newcomer, newcomer}
use Rattle.run_model.specs.Attempts.{pieces_of}
use Rattle.run_model.specs.Board.{Board, Deed, board, deed_events, said}
use Rattle.run_model.specs.Cancel.{Cause, cause_of, caused, event_refused, signal_cause, time_is_up}
use Rattle.run_model.specs.Dispatch.{Moment, moment_by, heard_by, event, failed_event, may_go, retried_event}
use Rattle.run_model.specs.Dispatch.{started_event, with_start}
use Rattle.run_model.specs.Journal.{history, IsLegalBackward}
use Rattle.run_model.specs.Story.{OwnTurn, own_turn, story_of, line_of, request_of, pieces}
use Rattle.run_model.specs.Turns.{live_in, oldest_of, admission, cancelled, deed_on, delivered_as, delivery, done_by}
use Rattle.run_model.specs.Turns.{event_of, nothing_done, tally_with, index_of}
use Rattle.run_model.specs.Ending.{last_status}
use Rattle.run_model.specs.Retries.{failure_message, next_delay}
use Rattle.run_model.specs.Unit.{at_moment, row, row_at, takes_at}
use Rattle.run_model.specs.Words.{clock, is_over, queue, sent, sub_run, told, unit_of}
use Rattle.run_laws.specs.Delays.{AreDelaysOwn, delay_in, delay_of_kind, delay_told, delays_by, delays_told}
use Rattle.run_laws.specs.Delays.{delays_waiting}
use Rattle.run_laws.proofs.units.AccountLemmas.{IsFirst}
use Rattle.run_laws.proofs.units.AttemptLemmas.{HasPieces, IsMade, IsMadeIf}
use Rattle.run_laws.proofs.board.ByTurn.{by_turn}
use Rattle.run_laws.proofs.told.Asides.{IsAside, IsAsideKind, IsAsideEvent, by_signal, key_aside, tick_aside}
use Rattle.run_laws.proofs.told.Asides.{stop_aside, answer_aside, inform_aside}
use Rattle.run_laws.proofs.told.Bounds.{IsBound, IsBoundKind, IsBoundAfter, bound_after, bound_deed, begin_cases}
use Rattle.run_laws.proofs.told.Bounds.{end_cases}
use Rattle.run_events.specs.declared.events.TestEventKind.TheVariants.{RunStarted, StressSubRunFinished}
use Rattle.run_laws.proofs.told.Cancels.{IsAfter, IsAfterKind, cancel_for, cancel_is}
use Rattle.run_laws.proofs.board.DeedFits.{PartFits, IsSentAs, Does}
use Rattle.run_laws.proofs.board.Holds.{Holds}
use Rattle.run_laws.proofs.board.Kept.{HoldsAfter, does_after, IsOfRun, IsBeforeRuns, where_joins, holds}
use Rattle.run_laws.proofs.units.MadeLemmas.{later_pieces}
use Rattle.run_laws.proofs.units.OneOff.{tried_once, once_later}
use Rattle.run_laws.proofs.board.Queue.{queue-cons}
use Rattle.run_laws.proofs.units.Rows.{Takes, answers, opens, decides as decides_now, passes, again, continues}
use Rattle.run_laws.proofs.units.Rows.{decide_cases, row_moves, row_passes, row_takes, takes_moment}
use Rattle.run_laws.proofs.units.RowDelays.{delays_sent, report_none, finish_none, way_none, AddsDelay, row_adds}
use Rattle.run_laws.proofs.board.OnBoard.{Frame}
use Rattle.run_laws.proofs.board.OnBoard.{frame_of}
use Rattle.run_events.specs.declared.events.TestEventKind.TheVariants.{StressSubRunStarted}
use Rattle.run_events.specs.declared.events.TestEventKind.TheVariants.{RunFinished}
use Rattle.run_laws.proofs.board.Kept.{from_base}
use Rattle.run_laws.proofs.board.Deeds.{base_of}

-- what a row sends of delays is of its own unit
own_only : (now : ℕ) (ph : Phase) (turn : UnitTurn) (u : UnitView) (k : ℕ) → u.phase ≡ ph
    → takes_at now ph u turn ≡ true
    → (number u == k) ≡ false → delays_sent k (row_at now ph turn u).sent ≡ []
own_only now ph turn u k at en apart = by_take (row_takes now ph turn u en)
  where
    failure : (delay : ℕ) (role : UnitRole) (o : Option ExecuteStatus) → (number_of role == k) ≡ false
        → delays_sent k (failure_message role delay o) ≡ []
    failure delay (roles.Test t) None apart = refl
    failure delay (roles.Test t) (Some s) apart = rw apart refl
    failure delay (roles.Script r) o apart = refl

    by_take : Takes ph turn → delays_sent k (row_at now ph turn u).sent ≡ []
    by_take (answers true from to) = rw (from, to) refl
    by_take (answers false from to) = rw (from, to) refl
    by_take (opens on) = report_none k (row_at now ph turn u).sent (continues u _ (row_moves now ph turn u at on)).sent
    by_take (decides_now word from to) = rw (from, to) (decide_cases (λ r. delays_sent k r.sent ≡ []) now word u
        (λ retry. failure (next_delay word u) u.role (last_status u.statuses) apart) (λ done. finish_none k u.role u))
    by_take (passes from to) = rw from (way_none k u (row_at now Delay turn u) (row_passes now turn u (at ∙ from)).way)
    by_take (again true from to) = rw (from, to) refl
    by_take (again false from to) = rw (from, to) refl

-- the first message of a unit tells none
first_none : (k : ℕ) (skipped : Bool) (u : UnitView) (m : Message) → IsFirst skipped u m → delays_sent k (Some m) ≡ []
first_none k true u m (ph, (t, (role, (reason, is)))) = rw is refl
first_none k false u m (ph, is) = rw is (by_role u.role)
  where
    by_role : (role : UnitRole) → delays_sent k (Some (start_message role u)) ≡ []
    by_role (roles.Test t) = refl
    by_role (roles.Script s) = refl

-- what is sent with a part
part_adds : (p : Settings) (f : Frame) (now : ℕ) (run : List Happening) (k : ℕ) (part : Option UnitPart)
    (sent : Option Message) → Holds p now run → PartFits p now run part → IsSentAs now run part sent
    → delays_by (unit_terms p k) (pieces (option_to_list (own_turn k now part (line_of k run)) ++ story_of k run))
    ≡ delays_by (unit_terms p k) (pieces_of k run) ++ delays_sent k sent
part_adds p f now run k None sent h fits from = rw from
    (sym (append-nil (delays_by (unit_terms p k) (pieces_of k run))))
part_adds p f now run k (Some (Joins u)) None h fits from = sym
    (append-nil (delays_by (unit_terms p k) (pieces_of k run)))
part_adds p f now run k (Some (Joins u)) (Some m) h fits (skipped, from) =
    sym (append-nil (delays_by (unit_terms p k) (pieces_of k run)))
    ∙ sym (ap (λ ds. delays_by (unit_terms p k) (pieces_of k run) ++ ds) (first_none k skipped u m from))
part_adds p f now run k (Some (Acts j turn)) sent h taken from = by_unit (j == k) refl
  where
    u : UnitView
    u = taken.unit

    moved : takes_at now u.phase (at_moment now u) turn ≡ true
    moved = takes_moment now u.phase u turn taken.takes

    own : OwnTurn
    own = record { moment = now; turn = turn; request = request_of turn (line_of k run) }

    row_sent : sent ≡ (row now turn u).sent
    row_sent = from ∙ ap (option_and_then (λ v. (row now turn v).sent)) taken.is

    before : List ℕ
    before = delays_by (unit_terms p k) (pieces_of k run)

    by_unit : (b : Bool) → (j == k) ≡ b
        → delays_by (unit_terms p k) (pieces (option_to_list (if b then Some own else None) ++ story_of k run))
        ≡ before ++ delays_sent k sent
    by_unit true e =
        let here : k ≡ j = grind arith in
        let is : unit_of k run ≡ Some u = ap (λ k. unit_of k run) here ∙ taken.is in
        let named : number u ≡ k = (h.named k u is).0 in
        let made : IsMade (unit_terms p k) u (pieces_of k run) =
        subst (λ v. IsMadeIf (unit_terms p k) v (story_of k run)) is (h.made k) in
        let own_row : AddsDelay u.terms (number u) own (pieces_of k run) (row now turn u).sent =
        row_adds now u.phase turn (at_moment now u) own (pieces_of k run) refl refl moved
        (once_later now u (tried_once p now run k u h is))
        (later_pieces u.terms now u.phase u (pieces_of k run) (h.named k u is).2
        (subst (λ terms. HasPieces terms u.phase u (pieces_of k run)) (sym made.terms) made.has)) made.attempt in
        subst (λ terms. delays_by terms (pieces (own ∷ story_of k run)) ≡ delays_by terms
        (pieces_of k run) ++ delays_sent k sent)
        made.terms (own_row ∙ ap (λ n. delays_by u.terms (pieces_of k run) ++ delays_sent n (row now turn u).sent) named
        ∙ ap (λ m. delays_by u.terms (pieces_of k run) ++ delays_sent k m) (sym row_sent))
    by_unit false e =
        let named : number u ≡ j = (h.named j u taken.is).0 in
        sym (append-nil before)
        ∙ sym (ap (λ ds. before ++ ds) (ap (delays_sent k) row_sent
        ∙ own_only now u.phase turn (at_moment now u) k refl moved (grind arith)))

-- a delivery tells what waited
cancel_none : (k : ℕ) (o : Option ReporterEvent) → IsAfter o → delays_told k (option_to_list o) ≡ []
cancel_none k None h = refl
cancel_none k (Some Tick) h = absurd h
cancel_none k (Some (Test e)) h = by_kind e.kind h
  where
    by_kind : (kind : TestEventKind) → IsAfterKind kind → cons_option (delay_of_kind k kind) [] ≡ []
    by_kind (RunBeginCancel cancelled) h = refl
    by_kind (RunBeginKill cancelled) h = refl
    by_kind (StressSubRunStarted progress) h = refl
    by_kind (RunFinished finished) h = refl
    by_kind kind h = absurd h

abbrev KeepsDelays : ℕ → List Message → Deed → Type 0
KeepsDelays k q d =
    delays_told k (deed_events d) ++ delays_waiting k (drop (if d.taken then 1 else 0) q) ≡ delays_waiting k q

caused_keeps : (k : ℕ) (now : Moment) (q : List Message) (t : Tally) (o : Option Cause) (d : Deed) → d.after ≡ None
    → KeepsDelays k q d → KeepsDelays k q (caused now t o d)
caused_keeps k now q t None d none keeps = keeps
caused_keeps k now q t (Some c) d none keeps =
    ap (λ ds. ds ++ delays_waiting k (drop (if d.taken then 1 else 0) q))
    (filter_map-append (delay_told k) (option_to_list d.told) (option_to_list (cancel_for now t (Some c.reason)))
    ∙ ap (λ ds. delays_told k (option_to_list d.told) ++ ds) (cancel_none k _ (cancel_is now t (Some c.reason))
    ∙ sym (cancel_none k d.after (subst IsAfter (sym none) tt)))
    ∙ sym (filter_map-append (delay_told k) (option_to_list d.told) (option_to_list d.after))) ∙ keeps

admission_keeps : (k : ℕ) (q : List Message) (o : Option Newcomer) → KeepsDelays k q (admission o)
admission_keeps k q None = refl
admission_keeps k q (Some new) = refl

told_if : (k : ℕ) (now : Moment) (kind : TestEventKind) (m : Message) (rest : List Message) (go : Bool)
    → delay_of_kind k kind ≡ None → delay_in k m ≡ None
    → delays_told k (option_to_list (option_map (event now) (if go then Some kind else None)) ++ [])
    ++ delays_waiting k rest ≡ delays_waiting k (m ∷ rest)
told_if k now kind m rest true none quiet_message = rw (none, quiet_message) refl
told_if k now kind m rest false none quiet_message = rw quiet_message refl

told_so : (k : ℕ) (now : Moment) (kind : TestEventKind) (m : Message) (rest : List Message)
    → delay_of_kind k kind ≡ delay_in k m
    → delays_told k (event now kind ∷ []) ++ delays_waiting k rest ≡ delays_waiting k (m ∷ rest)
told_so k now kind m rest same = rw same (by_delay (delay_in k m))
  where
    by_delay : (o : Option ℕ) → cons_option o [] ++ delays_waiting k rest ≡ cons_option o (delays_waiting k rest)
    by_delay None = refl
    by_delay (Some delay) = refl

delivery_keeps : (k : ℕ) (b : Board) (q : List Message) → KeepsDelays k q (delivery b q)
delivery_keeps k b [] = refl
delivery_keeps k b (ScriptStart start ∷ rest) =
    told_if k _ (ScriptStarted start) (ScriptStart start) rest (may_go b.dispatcher.tally) refl refl
delivery_keeps k b (Start start ∷ rest) =
    told_if k _ (started_event start (with_start b.dispatcher.tally)) (Start start) rest
    (may_go b.dispatcher.tally) refl
    refl
delivery_keeps k b (Retry retry ∷ rest) =
    told_if k _ (retried_event retry b.dispatcher.tally) (Retry retry) rest (may_go b.dispatcher.tally) refl refl
delivery_keeps k b (ScriptSlow slow ∷ rest) = refl
delivery_keeps k b (Slow slow ∷ rest) = refl
delivery_keeps k b (Skip skip ∷ rest) = refl
delivery_keeps k b (AttemptFailed failure ∷ rest) =
    told_so k (moment_by b.clock b.dispatcher.watch) (failed_event failure b.dispatcher.tally)
    (AttemptFailed failure) rest refl
delivery_keeps k b (Finish finish ∷ rest) =
    let tells : Option ReporterEvent = event_of b (Finish finish) in
    caused_keeps k (moment_by b.clock b.dispatcher.watch) (Finish finish ∷ rest) (tally_with b tells)
    (cause_of b.dispatcher.rules (tally_with b tells) (Finish finish))
    (delivered_as b (Finish finish) nothing_done) refl refl
delivery_keeps k b (ScriptFinish finish ∷ rest) =
    let tells : Option ReporterEvent = event_of b (ScriptFinish finish) in
    caused_keeps k (moment_by b.clock b.dispatcher.watch) (ScriptFinish finish ∷ rest) (tally_with b tells)
    (cause_of b.dispatcher.rules (tally_with b tells) (ScriptFinish finish))
    (delivered_as b (ScriptFinish finish) nothing_done) refl refl

aside_keeps : (k : ℕ) (q : List Message) (d : Deed) → IsAside d → KeepsDelays k q d
aside_keeps k q d aside =
    rw (aside.taken, aside.cancel) (ap (λ ds. ds ++ delays_waiting k q) (by_told d.told aside.told))
  where
    by_kind : (kind : TestEventKind) → IsAsideKind kind → delay_of_kind k kind ≡ None
    by_kind (RunPaused event) h = refl
    by_kind (RunContinued event) h = refl
    by_kind (InfoStarted event) h = refl
    by_kind (InfoAnswer event) h = refl
    by_kind (InfoFinished missing) h = refl
    by_kind (InputEnter event) h = refl
    by_kind kind h = absurd h

    by_told : (o : Option ReporterEvent) → IfSome o IsAsideEvent → delays_told k (option_to_list o ++ []) ≡ []
    by_told None h = refl
    by_told (Some Tick) h = refl
    by_told (Some (Test event)) h = rw (by_kind event.kind h) refl

-- the begin and the end of a sub-run tell none
bounds_none : (k : ℕ) (told after : Option ReporterEvent) → IsBound told → IsBoundAfter after
    → delays_told k (option_to_list told ++ option_to_list after) ≡ []
bounds_none k told after own later =
    filter_map-append (delay_told k) (option_to_list told) (option_to_list after)
    ∙ ap (λ ds. delays_told k (option_to_list told) ++ ds) (cancel_none k after (bound_after after later))
    ∙ append-nil (delays_told k (option_to_list told)) ∙ none told own
  where
    by_kind : (kind : TestEventKind) → IsBoundKind kind → cons_option (delay_of_kind k kind) [] ≡ []
    by_kind (RunStarted s) h = refl
    by_kind (StressSubRunStarted s) h = refl
    by_kind (StressSubRunFinished s) h = refl
    by_kind (RunFinished s) h = refl
    by_kind kind h = absurd h

    none : (o : Option ReporterEvent) → IsBound o → delays_told k (option_to_list o) ≡ []
    none None h = refl
    none (Some Tick) h = absurd h
    none (Some (Test e)) h = by_kind e.kind h

bound_keeps : (k : ℕ) (q : List Message) (told after : Option ReporterEvent) (begins ends over : Bool) → IsBound told
    → IsBoundAfter after → KeepsDelays k q (bound_deed told after begins ends over)
bound_keeps k q told after begins ends over own later =
    ap (λ ds. ds ++ delays_waiting k q) (bounds_none k told after own later)

keeps : (p : Settings) (b : Board) (k : ℕ) (turn : Turn) → KeepsDelays k b.queue (deed_on p b turn)
keeps p b k turn =
    by_turn (λ turn named. KeepsDelays k b.queue (done_by p b turn named))
    (record {
      begin = begin_cases (KeepsDelays k b.queue) (λ told after own later. bound_keeps k b.queue told after
          true false false own later)
          b.clock b.dispatcher;
      admit = admission_keeps k b.queue (newcomer p (index_of b.dispatcher) b.units);
      deliver = delivery_keeps k b b.queue;
      named = λ turn k to other. refl;
      clock = λ ns. refl;
      signal = λ signal. by_signal (KeepsDelays k b.queue) b.clock (live_in b.units) b.dispatcher signal
          (heard_by b.dispatcher.rules.hearing signal) (cancels (signal_cause b.dispatcher.causes.signals signal))
          (aside_keeps k b.queue);
      global_due = cancels time_is_up;
      report_cancel = cancels event_refused;
      end = end_cases (KeepsDelays k b.queue) (λ told after over own later. bound_keeps k b.queue told after
          false true over own later)
          b.clock b.dispatcher;
      key = λ key. aside_keeps k b.queue _ (key_aside b.clock (live_in b.units) b.dispatcher
          (heard_key b.dispatcher.rules.hearing.input key));
      tick = aside_keeps k b.queue _ tick_aside;
      stop_wait_due = aside_keeps k b.queue _ stop_aside;
      answer = aside_keeps k b.queue _ (answer_aside b (oldest_of b.answers));
      info_due = aside_keeps k b.queue _ (inform_aside b.clock b.dispatcher);
    })
    turn
  where
    cancels : (cause : Cause) → KeepsDelays k b.queue (cancelled b cause)
    cancels cause = caused_keeps k (moment_by b.clock b.dispatcher.watch) b.queue b.dispatcher.tally (Some cause)
        nothing_done refl refl

-- so the delays are those of own turns after one more deed
delays-cons : (p : Settings) (f : Frame) (now : ℕ) (run : List Happening) (e : Entry) (d : Deed) (k : ℕ)
    → Holds p now run → Does p f now run d → KeepsDelays k (queue run) d → AreDelaysOwn p run k
    → AreDelaysOwn p (said now e d ∷ run) k
delays-cons p f now run e d k h does kept was =
    ap (λ q. delays_told k (told run ++ deed_events d) ++ delays_waiting k q) (queue-cons (said now e d) run does.room)
    ∙ ap (λ ds. ds ++ delays_waiting k (rest ++ option_to_list d.sent))
    (filter_map-append (delay_told k) (told run) (deed_events d))
    ∙ ap (λ ds. (before ++ delays_told k (deed_events d)) ++ ds)
    (filter_map-append (delay_in k) rest (option_to_list d.sent))
    ∙ sym (append_assoc (before ++ delays_told k (deed_events d)) (delays_waiting k rest) (delays_sent k d.sent))
    ∙ ap (λ ds. ds ++ delays_sent k d.sent) (append_assoc before (delays_told k (deed_events d)) (delays_waiting k rest)
    ∙ ap (λ ds. before ++ ds) kept ∙ was)
    ∙ sym (part_adds p f now run k d.part d.sent h does.part does.sent_as)
  where
    rest : List Message
    rest = drop (if d.taken then 1 else 0) (queue run)

    before : List ℕ
    before = delays_told k (told run)

pub own_delays : (p : Settings) (backward : List Entry) → IsLegalBackward p backward → (k : ℕ)
    → AreDelaysOwn p (sub_run (history p backward)) k
own_delays p [] legal k = refl
own_delays p (e ∷ before) legal k = one_more (own_delays p before legal.2 k) (holds p before legal.2)
  where
    past : List Happening
    past = history p before

    one_more : AreDelaysOwn p (sub_run past) k → HoldsAfter p past
        → AreDelaysOwn p (sub_run (history p (e ∷ before))) k
    one_more was h = by_run (where_joins p past e h legal.0)
      where
        by_run : IsOfRun p past e ⊎ IsBeforeRuns p past e → AreDelaysOwn p (sub_run (history p (e ∷ before))) k
        by_run (inl of) = subst (λ run. AreDelaysOwn p run k) (sym of.joins)
            (delays-cons p (frame_of p past) (clock past) of.base e (deed_on p (board p past) e.turn) k of.holds of.does
            (keeps_base d.begins refl) (from_base (λ run. AreDelaysOwn p run k) p past e of refl was))
          where
            d : Deed
            d = deed_on p (board p past) e.turn

            here : (b : Bool) → d.begins ≡ b → queue of.base ≡ queue (base_of b (sub_run past))
            here b is = ap queue (of.is ∙ ap (λ b. base_of b (sub_run past)) is)

            keeps_base : (b : Bool) → d.begins ≡ b → KeepsDelays k (queue of.base) d
            keeps_base true is =
                let bounds = of.does.marks.bounds (ap (λ b. b || d.ends) is) in
                subst (λ q. KeepsDelays k q d) (sym (here true is))
                (rw (of.does.marks.begins is).1.taken (ap (λ ds. ds ++ [])
                (bounds_none k d.told d.after bounds.0 bounds.1)))
            keeps_base false is = subst (λ q. KeepsDelays k q d) (sym (here false is)) (keeps p (board p past) k e.turn)
        by_run (inr none) = subst (λ run. AreDelaysOwn p run k) (sym none.still) refl
