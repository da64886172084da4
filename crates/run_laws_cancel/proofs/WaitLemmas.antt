-- What deeds tell where a round begins or an answer is told, and how long a round is waited for since.
use Rattle.std.proofs.Common.{◌≡◌, ◌⊎◌, inl, inr, ℕ, ◌+◌, nat_le, ◌||◌, List, [], ◌∷◌, Bool, true, false, Option}
use Rattle.std.proofs.Common.{Some, None}
use Rattle.std.proofs.Common.{if◌then◌else◌, option_map, refl, ap, sym, subst, ◌∙◌, arith}
use Rattle.run_events.specs.Hearing.{heard_key}
use Rattle.run_events.specs.declared.settings.Settings.{Settings}
use Rattle.run_events.specs.declared.turn.Turn.TheVariants.{Answer, Key, Admit, Deliver, Signal, Begin, End}
use Rattle.run_events.specs.declared.turn.Turn.TheVariants.{Clock, GlobalDue, ReportCancel}
use Rattle.run_model.specs.declared.entry.Entry.{Entry}
use Rattle.run_model.specs.declared.happening.Happening.{Happening}
use Rattle.run_model.specs.Rounds.{open_round, round_since, is_answer, tells_answer, opens_round, closes_round}
use Rattle.run_model.specs.Turns.{oldest_of, admission, answer_to, answered_by, deed_on, delivered_as, delivery}
use Rattle.run_model.specs.Turns.{event_of, job_deed, job_event, key_deed, live_in, nothing_done, signal_deed}
use Rattle.run_model.specs.Turns.{starting, tally_with, tells, index_of, happening, cancelled}
use Rattle.run_model.specs.Words.{clock, sub_run, ns_of}
use Rattle.run_events.specs.declared.events.ReporterEvent.{ReporterEvent}
use Rattle.run_events.specs.declared.events.ReporterEvent.TheVariants.{Test, Tick}
use Rattle.run_events.specs.declared.events.TestEventKind.{TestEventKind}
use Rattle.run_events.specs.declared.events.TestEventKind.TheVariants.{RunPaused, RunContinued, InfoStarted}
use Rattle.run_events.specs.declared.events.TestEventKind.TheVariants.{InfoResponse as InfoAnswer}
use Rattle.run_events.specs.declared.info.InfoResponse.{InfoResponse}
use Rattle.run_laws_cancel.specs.Rounds.{begins_wait_in, begins_wait, time_waited, is_late}
use Rattle.run_events.specs.declared.input.InputEvent.{InputEvent}
use Rattle.run_events.specs.declared.message.Message.{Message}
use Rattle.run_events.specs.declared.request.Request.TheVariants.{Stop, Continue, Shutdown as ShutdownAsked}
use Rattle.run_events.specs.declared.request.ShutdownRequest.TheVariants.{Twice}
use Rattle.run_events.specs.declared.cancel.CancelReason.TheVariants.{SecondSignal}
use Rattle.run_events.specs.declared.signal.Heard.{Heard}
use Rattle.run_events.specs.declared.signal.Heard.TheVariants.{Shutdown, JobControl, Info}
use Rattle.run_events.specs.declared.signal.Signal.{Signal as SignalKind}
use Rattle.run_events.specs.declared.signal.Signal.TheVariants.{Tstp}
use Rattle.run_events.specs.declared.turn.Turn.{Turn}
use Rattle.run_model.specs.Admission.{Newcomer, newcomer}
use Rattle.run_model.specs.Board.{Board, Deed, board}
use Rattle.run_model.specs.Cancel.{Cause, cause_of, caused, time_is_up, event_refused, signal_cause, too_many_failed}
use Rattle.run_model.specs.Cancel.{failure_cause, script_failed, shutdown_by, first_reason, is_above}
use Rattle.run_model.specs.Dispatch.{Moment, go_of, heard_by, is_halted, moment_by, event, told_of, may_go}
use Rattle.run_model.specs.declared.dispatcher_view.DispatcherView.{DispatcherView}
use Rattle.run_model.specs.declared.dispatcher_view.Tally.{Tally}
use Rattle.run_laws.proofs.told.Bounds.{begin_cases, end_cases, IsBoundKind, IsBound}
use Rattle.run_events.specs.declared.input.InputEvent.TheVariants as inputs
use Rattle.run_model.specs.Journal.{history, IsLegalBackward}
use Rattle.run_laws.proofs.board.Kept.{holds, IsOfRun, IsBeforeRuns, where_joins, from_base}
use Rattle.std.specs.Prelude.{◌==◌, ⊤}
use Rattle.run_events.specs.declared.request.Request.{Request}
use Rattle.run_events.specs.declared.message.Message.TheVariants.{ScriptStart, Start, Retry, ScriptFinish, Finish}
use Rattle.run_events.specs.declared.message.Message.TheVariants.{ScriptSlow, Slow, AttemptFailed, Skip}
use Rattle.run_events.specs.Outcome.{failed_count}
use Rattle.run_events.specs.Result.{is_success}
use Rattle.run_events.specs.declared.retry_policy.MaxFail.{MaxFail}
use Rattle.run_events.specs.declared.retry_policy.MaxFail.TheVariants.{All, Count}
use Rattle.run_events.specs.declared.retry_policy.TerminateMode.{TerminateMode}
use Rattle.run_events.specs.declared.retry_policy.TerminateMode.TheVariants.{Wait, Immediate}
use Rattle.run_model.specs.declared.dispatcher_view.CancelRules.{CancelRules}

-- a deed that tells that a round begins, or an answer, is one that opens a round or tells an answer, and the converse
abbrev TellsWait : Deed → Type 0
TellsWait d = begins_wait d.told ≡ (opens_round d.request || tells_answer d.told)

-- an event that tells neither
record IsCalm (told : Option ReporterEvent) : Type 0 where
  waits : begins_wait told ≡ false
  answers : tells_answer told ≡ false

calm_kind : (moment : Moment) (kind : TestEventKind) → begins_wait_in kind ≡ false → is_answer kind ≡ false
    → IsCalm (Some (event moment kind))
calm_kind moment kind a b = record { waits = a; answers = b }

calm_if : (moment : Moment) (b : Bool) (kind : TestEventKind) → begins_wait_in kind ≡ false → is_answer kind ≡ false
    → IsCalm (option_map (event moment) (if b then Some kind else None))
calm_if moment true kind a c = record { waits = a; answers = c }
calm_if moment false kind a c = record { waits = refl; answers = refl }

-- what a message tells
calm_message : (moment : Moment) (t : Tally) (m : Message) → IsCalm (option_map (event moment) (told_of t m))
calm_message moment t (ScriptStart start) = calm_if moment (may_go t) _ refl refl
calm_message moment t (ScriptSlow slow) = calm_kind moment _ refl refl
calm_message moment t (ScriptFinish finish) = calm_kind moment _ refl refl
calm_message moment t (Start start) = calm_if moment (may_go t) _ refl refl
calm_message moment t (Skip skip) = calm_kind moment _ refl refl
calm_message moment t (Slow slow) = calm_kind moment _ refl refl
calm_message moment t (AttemptFailed failure) = calm_kind moment _ refl refl
calm_message moment t (Retry retry) = calm_if moment (may_go t) _ refl refl
calm_message moment t (Finish finish) = calm_kind moment _ refl refl

-- what a cause asks opens no round
abbrev IsQuiet : Option Cause → Type 0
IsQuiet None = ⊤
IsQuiet (Some cause) = opens_round (Some cause.request) ≡ false

quiet_message : (rules : CancelRules) (t : Tally) (m : Message) → IsQuiet (cause_of rules t m)
quiet_message rules t (ScriptFinish finish) = by_result (is_success finish.status.result)
  where
    by_result : (b : Bool) → IsQuiet (if b then None else Some script_failed)
    by_result true = tt
    by_result false = refl
quiet_message rules t (Finish finish) = by_most rules.max_fail
  where
    by_mode : (mode : TerminateMode) (b : Bool) → IsQuiet (if b then Some (too_many_failed mode) else None)
    by_mode Wait true = refl
    by_mode Immediate true = refl
    by_mode mode false = tt

    by_most : (most : MaxFail) → IsQuiet (failure_cause most t.stats)
    by_most All = tt
    by_most (Count most mode) = by_mode mode (nat_le most (failed_count t.stats))
quiet_message rules t m = tt

waits_caused : (now : Moment) (t : Tally) (o : Option Cause) (d : Deed) → IsCalm d.told → opens_round d.request ≡ false
    → IsQuiet o → TellsWait (caused now t o d)
waits_caused now t None d calm none quiet = calm.waits ∙ sym (rw (none, calm.answers) refl)
waits_caused now t (Some cause) d calm none quiet =
    calm.waits ∙ sym (rw calm.answers (by_rank (is_above t.stats.cancel_reason cause.reason)))
  where
    by_rank : (b : Bool) → (opens_round (if b then Some cause.request else None) || false) ≡ false
    by_rank true = rw quiet refl
    by_rank false = refl

waits_delivery : (b : Board) (q : List Message) → TellsWait (delivery b q)
waits_delivery b [] = refl
waits_delivery b (m ∷ rest) =
    waits_caused (moment_by b.clock b.dispatcher.watch) (tally_with b (event_of b m))
    (cause_of b.dispatcher.rules (tally_with b (event_of b m)) m)
    (delivered_as b m (answer_to b (starting m) (go_of b.dispatcher.tally m)))
    (calm_message (moment_by b.clock b.dispatcher.watch) b.dispatcher.tally m) refl
    (quiet_message b.dispatcher.rules (tally_with b (event_of b m)) m)

waits_admission : (o : Option Newcomer) → TellsWait (admission o)
waits_admission None = refl
waits_admission (Some new) = refl

waits_job : (now : ℕ) (d : DispatcherView) (signal : SignalKind) → TellsWait (job_deed now d signal)
waits_job now d Tstp = by_pause (is_halted d)
  where
    by_pause : (b : Bool) → TellsWait (if b
        then nothing_done
        else record (tells now d (RunPaused (job_event d.tally))) { request = Some (Stop d.rounds.count) })
    by_pause true = refl
    by_pause false = refl
waits_job now d signal = by_pause (is_halted d)
  where
    by_pause : (b : Bool) → TellsWait (if b
        then record (tells now d (RunContinued (job_event d.tally))) { request = Some Continue }
        else nothing_done)
    by_pause true = refl
    by_pause false = refl

waits_signal : (now live : ℕ) (d : DispatcherView) (signal : SignalKind) (heard : Option Heard)
    → TellsWait (signal_deed now live d signal heard)
waits_signal now live d signal (Some Shutdown) =
    waits_caused (moment_by now d.watch) d.tally (Some (signal_cause d.causes.signals signal)) nothing_done
    (record { waits = refl; answers = refl }) refl (by_count (d.causes.signals == 0) signal)
  where
    by_count : (b : Bool) (signal : SignalKind) → IsQuiet (Some (if b
        then record { reason = first_reason signal; request = ShutdownAsked (shutdown_by signal) }
        else record { reason = SecondSignal; request = ShutdownAsked Twice }))
    by_count true signal = refl
    by_count false signal = refl
waits_signal now live d signal (Some JobControl) = waits_job now d signal
waits_signal now live d signal (Some Info) = refl
waits_signal now live d signal None = refl

waits_key : (now live : ℕ) (d : DispatcherView) (key : Option InputEvent) → TellsWait (key_deed now live d key)
waits_key now live d (Some inputs.Enter) = refl
waits_key now live d (Some inputs.Info) = refl
waits_key now live d None = refl

waits_answer : (b : Board) (o : Option InfoResponse) → TellsWait (answered_by b o)
waits_answer b None = refl
waits_answer b (Some response) = refl

waits_cause : (b : Board) (cause : Cause) → opens_round (Some cause.request) ≡ false → TellsWait (cancelled b cause)
waits_cause b cause quiet =
    waits_caused (moment_by b.clock b.dispatcher.watch) b.dispatcher.tally (Some cause) nothing_done
    (record { waits = refl; answers = refl }) refl quiet

-- what is told where a sub-run begins or ends
waits_bound : (o : Option ReporterEvent) → IsBound o → begins_wait o ≡ (false || tells_answer o)
waits_bound None h = refl
waits_bound (Some Tick) h = absurd h
waits_bound (Some (Test event)) h = by_kind event.kind h
  where
    by_kind : (kind : TestEventKind) → IsBoundKind kind → begins_wait_in kind ≡ (false || is_answer kind)
    by_kind (RunPaused event) h = absurd h
    by_kind (InfoStarted event) h = absurd h
    by_kind (InfoAnswer event) h = absurd h
    by_kind kind h = refl

waits_is : (p : Settings) (b : Board) (turn : Turn) → TellsWait (deed_on p b turn)
waits_is p b Begin = begin_cases TellsWait (λ told after own later. waits_bound told own) b.clock b.dispatcher
waits_is p b End = end_cases TellsWait (λ told after over own later. waits_bound told own) b.clock b.dispatcher
waits_is p b Admit = waits_admission (newcomer p (index_of b.dispatcher) b.units)
waits_is p b Deliver = waits_delivery b b.queue
waits_is p b (Signal signal) =
    waits_signal b.clock (live_in b.units) b.dispatcher signal (heard_by b.dispatcher.rules.hearing signal)
waits_is p b (Key key) =
    waits_key b.clock (live_in b.units) b.dispatcher (heard_key b.dispatcher.rules.hearing.input key)
waits_is p b Answer = waits_answer b (oldest_of b.answers)
waits_is p b GlobalDue = waits_cause b time_is_up refl
waits_is p b ReportCancel = waits_cause b event_refused refl
waits_is p b turn = refl

-- a turn of the clock tells nothing
clock_calm : (p : Settings) (b : Board) (turn : Turn) → begins_wait (deed_on p b turn).told ≡ true → ns_of turn ≡ 0
clock_calm p b (Clock ns) is = cc
clock_calm p b turn is = refl

-- while a round is open, the time since it began or told its latest answer is what the turns since moved the clock
abbrev WaitsSince : ℕ → List Happening → Type 0
WaitsSince now run = (open_round run ≡ None) ⊎ (round_since run + time_waited run ≡ now)

waits-cons : (now : ℕ) (x : Happening) (run : List Happening) → x.moment ≡ now
    → begins_wait x.told ≡ (opens_round x.request || tells_answer x.told)
    → (begins_wait x.told ≡ true → ns_of x.turn ≡ 0) → WaitsSince now run → WaitsSince (now + ns_of x.turn) (x ∷ run)
waits-cons now x run at tells still was =
    by_opens (opens_round x.request) (tells_answer x.told) (closes_round x.stops x.told) refl refl refl was
  where
    begun : begins_wait x.told ≡ true → round_since (x ∷ run) ≡ now
        → round_since (x ∷ run) + time_waited (x ∷ run) ≡ now + ns_of x.turn
    begun is since = rw (is, since, still is) refl

    by_opens : (opens answers closes : Bool) → opens_round x.request ≡ opens → tells_answer x.told ≡ answers
        → closes_round x.stops x.told ≡ closes → (open_round run ≡ None) ⊎ (round_since run + time_waited run ≡ now)
        → (open_round (x ∷ run) ≡ None) ⊎ (round_since (x ∷ run) + time_waited (x ∷ run) ≡ now + ns_of x.turn)
    by_opens true answers closes o a c was =
        inr (begun (tells ∙ rw o refl) (rw o at))
    by_opens false answers true o a c was = inl (rw (o, c) refl)
    by_opens false true false o a c (inl none) = inl (rw (o, c) none)
    by_opens false true false o a c (inr is) = inr (begun (tells ∙ rw (o, a) refl) (rw (o, a) at))
    by_opens false false false o a c (inl none) = inl (rw (o, c) none)
    by_opens false false false o a c (inr is) =
        let quiet : begins_wait x.told ≡ false = tells ∙ rw (o, a) refl in
        inr (rw (o, a, quiet) (omega (arith, is)))

waits_since : (p : Settings) (backward : List Entry) → IsLegalBackward p backward
    → WaitsSince (clock (history p backward)) (sub_run (history p backward))
waits_since p [] legal = none
  where
    none : WaitsSince 0 []
    none = inl refl
waits_since p (e ∷ before) legal =
    by_run (waits_since p before legal.2) (where_joins p past e (holds p before legal.2) legal.0)
  where
    past : List Happening
    past = history p before

    none : (now : ℕ) → WaitsSince now []
    none now = inl refl

    tells : TellsWait (deed_on p (board p past) e.turn) → begins_wait (happening p past e).told
        ≡ (opens_round (happening p past e).request || tells_answer (happening p past e).told)
    tells is = is

    by_run : WaitsSince (clock past) (sub_run past) → IsOfRun p past e ⊎ IsBeforeRuns p past e
        → WaitsSince (clock (happening p past e ∷ past)) (sub_run (happening p past e ∷ past))
    by_run was (inl of) = subst (WaitsSince (clock past + ns_of e.turn)) (sym of.joins)
        (waits-cons (clock past) (happening p past e) of.base refl (tells (waits_is p (board p past) e.turn))
        (clock_calm p (board p past) e.turn)
        (from_base (WaitsSince (clock past)) p past e of (none (clock past)) was))
    by_run was (inr before) = subst (WaitsSince (clock past + ns_of e.turn)) (sym before.still)
        (none (clock past + ns_of e.turn))

late_is : (since waited now : ℕ) → since + waited ≡ now → nat_le (since + 100000000) now ≡ nat_le 100000000 waited
late_is since waited now is = grind (arith, is)

-- so where a round is open it is late as that says
pub late_as : (p : Settings) (backward : List Entry) (waits : Option Request → Bool) → waits None ≡ false
    → IsLegalBackward p backward → waits (open_round (sub_run (history p backward))) ≡ true
    → nat_le (round_since (sub_run (history p backward)) + 100000000) (clock (history p backward))
    ≡ is_late (history p backward)
late_as p backward waits none legal shown = by_since (waits_since p backward legal)
  where
    run : List Happening
    run = sub_run (history p backward)

    by_since : WaitsSince (clock (history p backward)) run
        → nat_le (round_since run + 100000000) (clock (history p backward)) ≡ nat_le 100000000 (time_waited run)
    by_since (inl shut) = let never : false ≡ true = sym none ∙ ap waits (sym shut) ∙ shown in cc
    by_since (inr is) = late_is (round_since run) (time_waited run) (clock (history p backward)) is
