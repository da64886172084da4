-- What each enabled turn does to the seats of the tests.
use Rattle.std.proofs.Common.{◌≡◌, ℕ, ◌==◌, List, [], ◌∷◌, ◌++◌, take, get_or, Bool, true, false, not, if◌then◌else◌}
use Rattle.std.proofs.Common.{Option, Some, None, refl, ap, sym, subst, ◌∙◌, option_to_list}
use Rattle.std.specs.Cmp.{second_so}
use Rattle.run_events.specs.declared.settings.Settings.{Settings}
use Rattle.run_events.specs.declared.turn.Turn.{Turn}
use Rattle.run_events.specs.declared.message.Message.{Message}
use Rattle.run_events.specs.declared.message.Message.TheVariants.{ScriptStart as ScriptStarts, ScriptSlow}
use Rattle.run_events.specs.declared.message.Message.TheVariants.{ScriptFinish as ScriptFinishes, Start, Slow}
use Rattle.run_events.specs.declared.message.Message.TheVariants.{AttemptFailed, Retry, Skip, Finish}
use Rattle.run_events.specs.declared.events.ReporterEvent.{ReporterEvent}
use Rattle.run_admission.specs.declared.seat.Seat.{Seat}
use Rattle.run_admission.specs.declared.seat.Seat.TheVariants.{Gone}
use Rattle.run_admission.proofs.FewerLemmas.{IsBelow}
use Rattle.run_events.specs.Hearing.{heard_key}
use Rattle.run_events.specs.declared.request.Request.{Request}
use Rattle.run_events.specs.declared.request.Request.TheVariants.{Stop, Continue}
use Rattle.run_events.specs.declared.signal.Signal.{Signal as SignalKind}
use Rattle.run_events.specs.declared.signal.Signal.TheVariants.{Tstp}
use Rattle.run_events.specs.declared.signal.Heard.{Heard}
use Rattle.run_events.specs.declared.signal.Heard.TheVariants.{Shutdown, JobControl, Info}
use Rattle.run_events.specs.declared.input.InputEvent.{InputEvent}
use Rattle.run_events.specs.declared.input.InputEvent.TheVariants as inputs
use Rattle.run_events.specs.declared.info.InfoResponse.{InfoResponse}
use Rattle.run_events.specs.declared.events.ReporterEvent.TheVariants.{Tick}
use Rattle.run_events.specs.declared.events.TestEventKind.TheVariants.{RunPaused, RunContinued}
use Rattle.run_model.specs.declared.dispatcher_view.DispatcherView.{DispatcherView}
use Rattle.run_model.specs.Rounds.{answers_waiting}
use Rattle.run_model.specs.Board.{Deed}
use Rattle.run_model.specs.Turns.{tells, job_event, job_deed, stops_itself, signal_deed, key_deed, answered_by}
use Rattle.run_model.specs.Turns.{oldest_of, live_in}
use Rattle.run_model.specs.Dispatch.{heard_by, is_main, is_halted}
use Rattle.run_model.specs.Cancel.{signal_cause, time_is_up, event_refused, cause_of}
use Rattle.run_model.specs.declared.dispatcher_view.Tally.{Tally}
use Rattle.run_model.specs.declared.happening.Happening.{Happening}
use Rattle.run_model.specs.Words.{a_test, finished_test, queue, told, starts, finishes, units, tally, signals_heard}
use Rattle.run_model.specs.Admission.{newcomer}
use Rattle.run_model.specs.Dispatch.{may_go, with_finish, finished_event}
use Rattle.run_model.specs.Board.{Board}
use Rattle.run_model.specs.Turns.{enabled_on, is_empty, takes_turn, turn_of_unit, nothing_done, event_of, tally_with}
use Rattle.run_model.specs.Turns.{delivered_as, delivery, done_by, deed_on}
use Rattle.run_laws.specs.Limits.{seat_told}
use Rattle.run_laws.proofs.board.Holds.{Holds}
use Rattle.run_laws.proofs.board.ByTurn.{by_turn}
use Rattle.run_laws.proofs.board.DeedFits.{IsBegin}
use Rattle.run_laws.proofs.told.Bounds.{IsBound, IsBoundKind, bound_deed, begin_cases, end_cases}
use Rattle.run_events.specs.declared.events.TestEventKind.TheVariants.{RunStarted, RunFinished, StressSubRunStarted}
use Rattle.run_events.specs.declared.events.TestEventKind.TheVariants.{StressSubRunFinished}
use Rattle.run_laws.proofs.board.OnBoard.{moment_in, event_in, board_of, board_with, unit_in-is}
use Rattle.run_laws.proofs.board.Facts.{may_go-is}
use Rattle.run_laws.proofs.board.OpenSeats.{opened, at_last, same_lower}
use Rattle.run_laws.proofs.told.ToldSeats.{seat_told-other, seat_told-finished, seat_told-nothing}
use Rattle.run_laws.proofs.board.StartMoves.{MovesSeats, tells_nothing, admits, unit_moves, caused_moves, start_moves}
use Rattle.run_laws.proofs.board.StartMoves.{script_finished, script_moves, retry_moves}
use Rattle.run_laws.proofs.board.OnBoard.{Frame}
use Rattle.run_laws.proofs.board.OnBoard.{index_in}
use Rattle.run_events.specs.declared.events.ReporterEvent.TheVariants.{Test}
use Rattle.run_events.specs.declared.events.TestEventKind.{TestEventKind}

-- the delivery of a message whose event neither starts nor finishes a test leaves the seats
told_moves : (p : Settings) (now : ℕ) (run : List Happening) (m : Message) (rest : List Message) (e : ReporterEvent)
    → queue run ≡ m ∷ rest → ((k : ℕ) → starts k e ≡ false) → ((k : ℕ) → finishes k e ≡ false)
    → ((seat : ℕ → Seat) (k : ℕ) → opened m seat k ≡ seat k)
    → MovesSeats p now run (record nothing_done { taken = true; told = Some e })
told_moves p now run m rest e eq s f leaves = record {
  tells = same_lower _ _ (λ k. seat_told-other k (told run) e (s k) (f k) ∙ sym (leaves (seat_told (told run)) k)
      ∙ ap (λ q. at_last (seat_told (told run)) (take 1 q) k) (sym eq));
  opens_none = λ cause. same_lower _ _ (λ k. seat_told-other k (told run) e (s k) (f k));
  keeps = λ kept. kept;
  sends = λ calm below. below;
}

-- what a delivery does to the seats
delivers : (p : Settings) (f : Frame) (now : ℕ) (run : List Happening) (q : List Message) → Holds p now run
    → queue run ≡ q → not (is_empty q) ≡ true → MovesSeats p now run (delivery (board_of p f now run) q)
delivers p f now run [] h eq en = cc
delivers p f now run (Start start ∷ rest) h eq en =
    start_moves p f now run start rest (may_go (tally p run)) (get_or (units p run) start.test.unit None) h eq
    (may_go-is p run) (sym (unit_in-is p now run start.test.unit h))
delivers p f now run (ScriptStarts start ∷ rest) h eq en =
    script_moves p f now run start rest (may_go (tally p run)) (get_or (units p run) start.script.unit None) h eq
    (may_go-is p run) (sym (unit_in-is p now run start.script.unit h))
delivers p f now run (ScriptSlow slow ∷ rest) h eq en =
    told_moves p now run (ScriptSlow slow) rest _ eq (λ k. refl) (λ k. refl) (λ seat k. refl)
delivers p f now run (ScriptFinishes finish ∷ rest) h eq en =
    let b : Board = board_of p f now run in
    let tells : Option ReporterEvent = event_of b (ScriptFinishes finish) in
    caused_moves p now run (moment_in now f)
    (cause_of b.dispatcher.rules (tally_with b tells) (ScriptFinishes finish)) (tally_with b tells)
    (delivered_as b (ScriptFinishes finish) nothing_done) (record {
      tells = λ k used. script_finished k (moment_in now f) (told run) finish used
          ∙ ap (λ q. at_last (seat_told (told run)) (take 1 q) k) (sym eq);
      opens_none = λ cause k. script_finished k (moment_in now f) (told run) finish;
      keeps = λ kept. kept;
      sends = λ calm below. below;
    })
delivers p f now run (Retry retry ∷ rest) h eq en =
    retry_moves p f now run retry rest (may_go (tally p run)) (get_or (units p run) retry.start.test.unit None) h eq
    (may_go-is p run) (sym (unit_in-is p now run retry.start.test.unit h))
delivers p f now run (Skip skip ∷ rest) h eq en =
    told_moves p now run (Skip skip) rest _ eq (λ k. refl) (λ k. refl) (λ seat k. refl)
delivers p f now run (Slow slow ∷ rest) h eq en =
    told_moves p now run (Slow slow) rest _ eq (λ k. refl) (λ k. refl) (λ seat k. refl)
delivers p f now run (AttemptFailed failure ∷ rest) h eq en =
    told_moves p now run (AttemptFailed failure) rest _ eq (λ k. refl) (λ k. refl) (λ seat k. refl)
delivers p f now run (Finish finish ∷ rest) h eq en =
    let b : Board = board_of p f now run in
    let tells : Option ReporterEvent = event_of b (Finish finish) in
    caused_moves p now run (moment_in now f) (cause_of b.dispatcher.rules (tally_with b tells) (Finish finish))
    (tally_with b tells) (delivered_as b (Finish finish) nothing_done) (record {
      tells = same_lower _ _ (λ k. seat_told-finished k (moment_in now f) (told run) finish after
          ∙ ap (λ q. at_last (seat_told (told run)) (take 1 q) k) (sym eq));
      opens_none = λ cause k. closes k;
      keeps = λ kept. kept;
      sends = λ calm below. below;
    })
  where
    after : Tally
    after = with_finish (tally p run) (a_test (finished_test finish))

    closes : (k : ℕ) → IsBelow (seat_told (told run ++ event_in now f (finished_event finish after) ∷ []) k)
        (seat_told (told run) k)
    closes k = subst (λ s. IsBelow s (seat_told (told run) k))
        (sym (seat_told-finished k (moment_in now f) (told run) finish after))
        (by_unit (finish.test.unit == k))
      where
        by_unit : (b : Bool) → IsBelow (if b then Gone else seat_told (told run) k) (seat_told (told run) k)
        by_unit true used = cc
        by_unit false used = refl

-- a deed that tells nothing, or an event that neither starts nor finishes a test, and does nothing else to them
silent_moves : (p : Settings) (now : ℕ) (run : List Happening) (d : Deed) → d.part ≡ None → d.sent ≡ None
    → d.taken ≡ false → d.told ≡ None → MovesSeats p now run d
silent_moves p now run d part sent taken none = record {
  tells = rw (none, taken) (tells_nothing run);
  opens_none = λ cause. rw none (tells_nothing run);
  keeps = λ kept. rw part kept;
  sends = λ calm below. rw (part, sent) below;
}

aside_moves : (p : Settings) (now : ℕ) (run : List Happening) (e : ReporterEvent) (request : Option Request)
    → ((k : ℕ) → starts k e ≡ false) → ((k : ℕ) → finishes k e ≡ false)
    → MovesSeats p now run (record nothing_done { told = Some e; request = request })
aside_moves p now run e request s f = record {
  tells = same_lower _ _ (λ k. seat_told-other k (told run) e (s k) (f k));
  opens_none = λ cause. same_lower _ _ (λ k. seat_told-other k (told run) e (s k) (f k));
  keeps = λ kept. kept;
  sends = λ calm below. below;
}

-- so are a stop, a continue, a query and an answer
idle_moves : (p : Settings) (now : ℕ) (run : List Happening) → MovesSeats p now run nothing_done
idle_moves p now run = silent_moves p now run nothing_done refl refl refl refl

job_moves : (p : Settings) (f : Frame) (now : ℕ) (run : List Happening) (signal : SignalKind)
    → MovesSeats p now run (job_deed now (board_of p f now run).dispatcher signal)
job_moves p f now run signal = by_signal signal
  where
    d : DispatcherView
    d = (board_of p f now run).dispatcher

    stops : (halted : Bool) → MovesSeats p now run (if halted then nothing_done
        else record (tells now d (RunPaused (job_event d.tally))) { request = Some (Stop d.rounds.count) })
    stops true = idle_moves p now run
    stops false = aside_moves p now run _ _ (λ k. refl) (λ k. refl)

    continues : (halted : Bool) → MovesSeats p now run (if halted
        then record (tells now d (RunContinued (job_event d.tally))) { request = Some Continue } else nothing_done)
    continues true = aside_moves p now run _ _ (λ k. refl) (λ k. refl)
    continues false = idle_moves p now run

    by_signal : (signal : SignalKind) → MovesSeats p now run (job_deed now d signal)
    by_signal Tstp = stops (is_halted d)
    by_signal signal = continues (is_halted d)

signal_moves : (p : Settings) (f : Frame) (now live : ℕ) (run : List Happening) (signal : SignalKind)
    (heard : Option Heard)
    → MovesSeats p now run (signal_deed now live (board_of p f now run).dispatcher signal heard)
signal_moves p f now live run signal (Some Shutdown) =
    caused_moves p now run (moment_in now f) (Some (signal_cause (signals_heard run) signal)) (tally p run)
    nothing_done (idle_moves p now run)
signal_moves p f now live run signal (Some JobControl) = job_moves p f now run signal
signal_moves p f now live run signal (Some Info) = aside_moves p now run _ _ (λ k. refl) (λ k. refl)
signal_moves p f now live run signal None = idle_moves p now run

key_moves : (p : Settings) (f : Frame) (now live : ℕ) (run : List Happening) (heard : Option InputEvent)
    → MovesSeats p now run (key_deed now live (board_of p f now run).dispatcher heard)
key_moves p f now live run (Some inputs.Enter) = aside_moves p now run _ _ (λ k. refl) (λ k. refl)
key_moves p f now live run (Some inputs.Info) = aside_moves p now run _ _ (λ k. refl) (λ k. refl)
key_moves p f now live run None = idle_moves p now run

answer_moves : (p : Settings) (f : Frame) (now : ℕ) (run : List Happening) (answer : Option InfoResponse)
    → MovesSeats p now run (answered_by (board_of p f now run) answer)
answer_moves p f now run None = idle_moves p now run
answer_moves p f now run (Some response) = aside_moves p now run _ _ (λ k. refl) (λ k. refl)

-- the begin and the end of a sub-run leave the seats as they are
bound_seats : (k : ℕ) (es : List ReporterEvent) (o : Option ReporterEvent) → IsBound o
    → seat_told (es ++ option_to_list o) k ≡ seat_told es k
bound_seats k es None h = seat_told-nothing k es
bound_seats k es (Some Tick) h = absurd h
bound_seats k es (Some (Test e)) h = by_kind e.kind h
  where
    by_kind : (kind : TestEventKind) → IsBoundKind kind
        → seat_told (es ++ Test (record e { kind = kind }) ∷ []) k ≡ seat_told es k
    by_kind (RunStarted s) h = seat_told-other k es _ refl refl
    by_kind (StressSubRunStarted s) h = seat_told-other k es _ refl refl
    by_kind (StressSubRunFinished s) h = seat_told-other k es _ refl refl
    by_kind (RunFinished s) h = seat_told-other k es _ refl refl
    by_kind kind h = absurd h

bound_moves : (p : Settings) (now : ℕ) (run : List Happening) (told after : Option ReporterEvent) → IsBound told
    → (begins ends over : Bool) → MovesSeats p now run (bound_deed told after begins ends over)
bound_moves p now run told_own after own begins ends over = record {
  tells = same_lower _ _ (λ k. bound_seats k (told run) told_own own);
  opens_none = λ cause. same_lower _ _ (λ k. bound_seats k (told run) told_own own);
  keeps = λ kept. kept;
  sends = λ calm below. below;
}

pub begin_moves : (p : Settings) (now : ℕ) (d : Deed) → IsBegin d → IsBound d.told → MovesSeats p now [] d
begin_moves p now d it own = record {
  tells = rw it.taken (same_lower _ _ (λ k. bound_seats k [] d.told own));
  opens_none = λ cause. same_lower _ _ (λ k. bound_seats k [] d.told own);
  keeps = λ kept. rw it.part kept;
  sends = λ calm below. rw (it.sent, it.part) below;
}

-- what each enabled turn does to the seats
pub moves : (p : Settings) (f : Frame) (refused : Bool) (now : ℕ) (run : List Happening) (turn : Turn) → Holds p now run
    → enabled_on p (board_with p refused f now run) turn ≡ true
    → MovesSeats p now run (deed_on p (board_with p refused f now run) turn)
moves p f refused now run turn h en =
    by_turn (λ turn named. takes_turn p b turn named ≡ true → MovesSeats p now run (done_by p b turn named))
    (record {
      begin = λ en. begin_cases (MovesSeats p now run)
          (λ told after own later. bound_moves p now run told after own true false false) now b.dispatcher;
      admit = λ en. admits p now (index_in p f) run (newcomer p (index_in p f) (units p run)) refl;
      deliver = λ en. delivers p f now run (queue run) h refl
          (second_so (is_main b.dispatcher) (not (is_empty (queue run))) en);
      named = λ turn k to other en. unit_moves p f now run k to _ h (sym (unit_in-is p now run k h)) en other;
      clock = λ ns en. still;
      signal = λ signal en. signal_moves p f now (live_in (units p run)) run signal
          (heard_by p.plan.hearing signal);
      key = λ key en. key_moves p f now (live_in (units p run)) run (heard_key p.plan.hearing.input key);
      tick = λ en. aside_moves p now run Tick None (λ k. refl) (λ k. refl);
      stop_wait_due = λ en. silent_moves p now run stops_itself refl refl refl refl;
      answer = λ en. answer_moves p f now run (oldest_of (answers_waiting run));
      info_due = λ en. aside_moves p now run _ None (λ k. refl) (λ k. refl);
      global_due = λ en. caused_moves p now run (moment_in now f) (Some time_is_up) (tally p run) nothing_done still;
      report_cancel = λ en.
          caused_moves p now run (moment_in now f) (Some event_refused) (tally p run) nothing_done still;
      end = λ en. end_cases (MovesSeats p now run)
          (λ told after over own later. bound_moves p now run told after own false true over) now b.dispatcher;
    })
    turn (second_so (not f.over) (takes_turn p b turn (turn_of_unit turn)) en)
  where
    still : MovesSeats p now run nothing_done
    still = idle_moves p now run

    b : Board
    b = board_with p refused f now run
