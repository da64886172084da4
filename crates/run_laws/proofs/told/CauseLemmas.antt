-- Which turns are causes, and for which reason.
use Rattle.std.proofs.Common.{◌≡◌, ℕ, ◌==◌, List, [], ◌∷◌, nat_le, Bool, true, false, if◌then◌else◌, Option, Some, None}
use Rattle.std.proofs.Common.{option_map, refl, ap, sym, subst, ◌∙◌}
use Rattle.run_events.specs.Outcome.{failed_count}
use Rattle.run_events.specs.declared.message.Message.{Message}
use Rattle.run_events.specs.declared.message.Message.TheVariants.{ScriptStart as ScriptStarts, ScriptFinish, Start}
use Rattle.run_events.specs.declared.message.Message.TheVariants.{Retry, Finish}
use Rattle.run_events.specs.declared.message.ScriptStart.{ScriptStart}
use Rattle.run_events.specs.declared.cancel.CancelReason.TheVariants.{SetupScriptFailure}
use Rattle.run_events.specs.declared.events.TestEventKind.TheVariants.{SetupScriptStarted}
use Rattle.run_events.specs.declared.result.ExecutionResult.{ExecutionResult}
use Rattle.run_events.specs.Result.{is_success}
use Rattle.run_events.specs.declared.message.TestStart.{TestStart}
use Rattle.run_events.specs.declared.message.TestRetry.{TestRetry}
use Rattle.run_events.specs.declared.retry_policy.MaxFail.{MaxFail}
use Rattle.run_events.specs.declared.retry_policy.MaxFail.TheVariants.{All, Count}
use Rattle.run_events.specs.declared.retry_policy.TerminateMode.{TerminateMode}
use Rattle.run_events.specs.declared.retry_policy.TerminateMode.TheVariants.{Wait, Immediate}
use Rattle.run_events.specs.declared.settings.Settings.{Settings}
use Rattle.run_events.specs.declared.signal.Signal.{Signal as SignalKind}
use Rattle.run_events.specs.declared.signal.Signal.TheVariants.{Int}
use Rattle.run_events.specs.declared.stats.RunStats.{RunStats}
use Rattle.run_events.specs.declared.turn.Turn.{Turn}
use Rattle.run_events.specs.declared.turn.Turn.TheVariants.{Signal, Deliver, Admit, Key, Answer}
use Rattle.run_model.specs.declared.dispatcher_view.Tally.{Tally}
use Rattle.run_model.specs.declared.happening.Happening.{Happening}
use Rattle.run_model.specs.Admission.{Newcomer, newcomer}
use Rattle.run_model.specs.Board.{Board, Deed, board, dispatcher_of}
use Rattle.run_model.specs.Cancel.{Cause, first_reason, signal_cause, too_many_failed, failure_cause, script_failed}
use Rattle.run_model.specs.Cancel.{script_cause, caused}
use Rattle.run_model.specs.Dispatch.{Moment, moment_by, event, may_go, started_event, retried_event, with_start}
use Rattle.run_model.specs.Dispatch.{rules_of, is_shutdown, heard_by}
use Rattle.run_model.specs.Rounds.{answers_waiting}
use Rattle.run_model.specs.declared.dispatcher_view.CancelRules.{CancelRules}
use Rattle.run_events.specs.Hearing.{heard_key}
use Rattle.run_events.specs.declared.signal.Heard.{Heard}
use Rattle.run_events.specs.declared.signal.Heard.TheVariants.{Shutdown, JobControl, Info}
use Rattle.run_model.specs.Turns.{admission, deed_on, delivered_as, delivery, event_of, tally_with, nothing_done, tells}
use Rattle.run_model.specs.Turns.{signal_deed, live_in, oldest_of}
use Rattle.run_model.specs.Words.{clock, queue, signals_heard, sub_run, units}
use Rattle.run_laws.specs.Cancels.{cause_by, delivery_reason, failure_reason, failures_reason, script_reason}
use Rattle.run_laws.specs.Cancels.{first_signal, signal_reason}
use Rattle.run_laws.proofs.told.Bounds.{begin_cases, end_cases}
use Rattle.run_events.specs.declared.turn.Turn.TheVariants.{Begin, End}
use Rattle.run_laws.proofs.told.Asides.{answer_aside, job_aside, key_aside}
use Rattle.run_laws.proofs.board.OnBoard.{index_in}
use Rattle.run_model.specs.Turns.{index_of}

-- the moment of what is told on a board
abbrev moment_on : Board → Moment
moment_on b = moment_by b.clock b.dispatcher.watch

-- a signal
first_is : (signal : SignalKind) → first_reason signal ≡ first_signal signal
first_is Int = refl
first_is signal = refl

signal_is : (heard : ℕ) (signal : SignalKind) → (signal_cause heard signal).reason ≡ signal_reason heard signal
signal_is heard signal = by_first (heard == 0)
  where
    by_first : (b : Bool) → (if b
        then (signal_cause 0 signal) else (signal_cause 1 signal)).reason
        ≡ (if b then first_signal signal else signal_reason 1 signal)
    by_first true = first_is signal
    by_first false = refl

-- as many failures as end the run
mode_is : (mode : TerminateMode) → (too_many_failed mode).reason ≡ failure_reason mode
mode_is Wait = refl
mode_is Immediate = refl

failure_is : (now : Moment) (t : Tally) (most : MaxFail) (stats : RunStats) (d : Deed) → d.cause ≡ None
    → (caused now t (failure_cause most stats) d).cause ≡ failures_reason most stats
failure_is now t All stats d none = none
failure_is now t (Count most mode) stats d none = by_count (nat_le most (failed_count stats))
  where
    by_count : (b : Bool) → (caused now t (if b then Some (too_many_failed mode) else None) d).cause
        ≡ (if b then Some (failure_reason mode) else None)
    by_count true = ap Some (mode_is mode)
    by_count false = none

-- a cause leaves what else is told
pub told_is : (now : Moment) (t : Tally) (cause : Option Cause) (d : Deed) → (caused now t cause d).told ≡ d.told
told_is now t None d = refl
told_is now t (Some cause) d = refl

finish_is : (now : Moment) (t : Tally) (most : MaxFail) (stats : RunStats) (d : Deed) → d.cause ≡ None
    → failures_reason most stats ≡ delivery_reason most d.told
    → (caused now t (failure_cause most stats) d).cause
    ≡ delivery_reason most (caused now t (failure_cause most stats) d).told
finish_is now t most stats d none tells =
    failure_is now t most stats d none ∙ tells
    ∙ sym (ap (delivery_reason most) (told_is now t (failure_cause most stats) d))

-- a script that failed
script_is : (now : Moment) (t : Tally) (result : ExecutionResult) (d : Deed) → d.cause ≡ None
    → (caused now t (script_cause result) d).cause ≡ script_reason result
script_is now t result d none = by_success (is_success result)
  where
    by_success : (b : Bool) → (caused now t (if b then None else Some script_failed) d).cause
        ≡ (if b then None else Some SetupScriptFailure)
    by_success true = none
    by_success false = refl

-- the delivery of a message
script_start_is : (most : MaxFail) (now : Moment) (start : ScriptStart) (go : Bool)
    → None ≡ delivery_reason most (option_map (event now) (if go then Some (SetupScriptStarted start) else None))
script_start_is most now start true = refl
script_start_is most now start false = refl

start_is : (most : MaxFail) (now : Moment) (t : Tally) (start : TestStart) (go : Bool)
    → None ≡ delivery_reason most
    (option_map (event now) (if go then Some (started_event start (with_start t)) else None))
start_is most now t start true = refl
start_is most now t start false = refl

retry_is : (most : MaxFail) (now : Moment) (t : Tally) (retry : TestRetry) (go : Bool)
    → None ≡ delivery_reason most (option_map (event now) (if go then Some (retried_event retry t) else None))
retry_is most now t retry true = refl
retry_is most now t retry false = refl

delivery_is : (p : Settings) (b : Board) (q : List Message) → b.dispatcher.rules ≡ rules_of p
    → (delivery b q).cause ≡ delivery_reason p.max_fail (delivery b q).told
delivery_is p b [] rules = refl
delivery_is p b (Start start ∷ rest) rules =
    start_is p.max_fail (moment_on b) b.dispatcher.tally start (may_go b.dispatcher.tally)
delivery_is p b (ScriptStarts start ∷ rest) rules =
    script_start_is p.max_fail (moment_on b) start (may_go b.dispatcher.tally)
delivery_is p b (ScriptFinish finish ∷ rest) rules =
    let t : Tally = tally_with b (event_of b (ScriptFinish finish)) in
    let d : Deed = delivered_as b (ScriptFinish finish) nothing_done in
    script_is (moment_on b) t finish.status.result d refl
    ∙ sym (ap (delivery_reason p.max_fail) (told_is (moment_on b) t (script_cause finish.status.result) d))
delivery_is p b (Finish finish ∷ rest) rules =
    let t : Tally = tally_with b (event_of b (Finish finish)) in
    let d : Deed = delivered_as b (Finish finish) nothing_done in
    subst (λ most. (caused (moment_on b) t (failure_cause most t.stats) d).cause
    ≡ delivery_reason p.max_fail (caused (moment_on b) t (failure_cause most t.stats) d).told)
    (sym (ap (λ (rules : CancelRules). rules.max_fail) rules))
    (finish_is (moment_on b) t p.max_fail t.stats d refl refl)
delivery_is p b (Retry retry ∷ rest) rules =
    retry_is p.max_fail (moment_on b) b.dispatcher.tally retry (may_go b.dispatcher.tally)
delivery_is p b (m ∷ rest) rules = refl

-- an admission is none
admits_none : (o : Option Newcomer) → (admission o).cause ≡ None
admits_none None = refl
admits_none (Some new) = refl

-- so a signal is one where it shuts the run down
by_heard : (p : Settings) (past : List Happening) (signal : SignalKind) (heard : Option Heard)
    → (signal_deed (clock past) (live_in (units p (sub_run past))) (dispatcher_of p past) signal heard).cause
    ≡ (if is_shutdown heard then Some (signal_reason (signals_heard (sub_run past)) signal) else None)
by_heard p past signal (Some Shutdown) = ap Some (signal_is (signals_heard (sub_run past)) signal)
by_heard p past signal (Some JobControl) = (job_aside (clock past) (dispatcher_of p past) signal).cause
by_heard p past signal (Some Info) = refl
by_heard p past signal None = refl

-- so each turn
pub cause_is : (p : Settings) (past : List Happening) (turn : Turn)
    → (deed_on p (board p past) turn).cause ≡ cause_by p (sub_run past) turn (deed_on p (board p past) turn).told
cause_is p past Admit = admits_none (newcomer p (index_of (dispatcher_of p past)) (units p (sub_run past)))
cause_is p past Deliver = delivery_is p (board p past) (queue (sub_run past)) refl
cause_is p past Begin = begin_cases (λ d. d.cause ≡ None) (λ told after own later. refl)
    (clock past) (dispatcher_of p past)
cause_is p past End = end_cases (λ d. d.cause ≡ None) (λ told after over own later. refl)
    (clock past) (dispatcher_of p past)
cause_is p past (Signal signal) = by_heard p past signal (heard_by p.plan.hearing signal)
cause_is p past (Key key) =
    (key_aside (clock past) (live_in (units p (sub_run past))) (dispatcher_of p past)
    (heard_key p.plan.hearing.input key)).cause
cause_is p past Answer = (answer_aside (board p past) (oldest_of (answers_waiting (sub_run past)))).cause
cause_is p past turn = refl
