-- What each turn tells of rounds, and which requests it broadcasts.
use Rattle.std.proofs.Common.{◌≡◌, ℕ, ◌-◌, ◌&&◌, List, [], ◌∷◌, Bool, true, false, if◌then◌else◌, Option, Some, None}
use Rattle.std.proofs.Common.{option_map, is_some, refl, ap, sym, ◌∙◌, ◌==◌, nat_le, not}
use Rattle.std.specs.Cmp.{first_so, second_so}
use Rattle.std.specs.Prelude.{⊤, IfSome}
use Rattle.run_events.specs.Hearing.{heard_key}
use Rattle.run_events.specs.declared.events.ReporterEvent.{ReporterEvent}
use Rattle.run_events.specs.declared.events.TestEventKind.{TestEventKind}
use Rattle.run_events.specs.declared.events.ReporterEvent.TheVariants.{Tick, Test}
use Rattle.run_events.specs.declared.events.TestEventKind.TheVariants.{SetupScriptStarted, RunPaused, RunContinued}
use Rattle.run_events.specs.declared.events.TestEventKind.TheVariants.{RunStarted, RunFinished, StressSubRunStarted}
use Rattle.run_events.specs.declared.events.TestEventKind.TheVariants.{StressSubRunFinished}
use Rattle.run_events.specs.declared.info.InfoResponse.{InfoResponse}
use Rattle.run_events.specs.declared.input.InputEvent.{InputEvent}
use Rattle.run_events.specs.declared.input.InputEvent.TheVariants as inputs
use Rattle.run_events.specs.declared.message.Message.{Message}
use Rattle.run_events.specs.declared.message.Message.TheVariants.{ScriptStart, ScriptSlow, ScriptFinish, Start, Slow}
use Rattle.run_events.specs.declared.message.Message.TheVariants.{AttemptFailed, Retry, Skip, Finish}
use Rattle.run_events.specs.declared.request.Request.{Request}
use Rattle.run_events.specs.declared.request.Request.TheVariants.{Stop, Continue, Shutdown, OtherCancel, GetInfo}
use Rattle.run_events.specs.declared.retry_policy.MaxFail.{MaxFail}
use Rattle.run_events.specs.declared.retry_policy.MaxFail.TheVariants.{All, Count}
use Rattle.run_events.specs.declared.retry_policy.TerminateMode.{TerminateMode}
use Rattle.run_events.specs.declared.retry_policy.TerminateMode.TheVariants.{Wait, Immediate}
use Rattle.run_events.specs.declared.settings.Settings.{Settings}
use Rattle.run_events.specs.declared.signal.Heard.{Heard}
use Rattle.run_events.specs.declared.signal.Heard.TheVariants.{Shutdown as ShutsDown, JobControl, Info}
use Rattle.run_events.specs.declared.signal.Signal.{Signal as SignalKind}
use Rattle.run_events.specs.declared.signal.Signal.TheVariants.{Tstp}
use Rattle.run_events.specs.declared.stats.RunStats.{RunStats}
use Rattle.run_events.specs.declared.turn.Turn.{Turn}
use Rattle.run_events.specs.declared.turn.Turn.TheVariants.{Admit, Answer, Begin, Deliver, End, Key as KeyCame}
use Rattle.run_events.specs.declared.turn.Turn.TheVariants.{Signal as SignalCame}
use Rattle.run_model.specs.declared.dispatcher_view.CancelRules.{CancelRules}
use Rattle.run_model.specs.declared.dispatcher_view.DispatcherView.{DispatcherView}
use Rattle.run_model.specs.declared.dispatcher_view.Tally.{Tally}
use Rattle.run_model.specs.Admission.{Newcomer, newcomer}
use Rattle.run_model.specs.Board.{Board, Deed}
use Rattle.run_model.specs.Cancel.{Cause, cause_of, caused, event_refused, failure_cause, is_above, script_cause}
use Rattle.run_model.specs.Cancel.{script_failed, signal_cause, time_is_up, too_many_failed}
use Rattle.run_events.specs.Outcome.{failed_count}
use Rattle.run_events.specs.Result.{is_success}
use Rattle.run_events.specs.declared.result.ExecutionResult.{ExecutionResult}
use Rattle.run_model.specs.Dispatch.{retried_event, started_event, with_start, Moment, event, go_of, heard_by}
use Rattle.run_model.specs.Dispatch.{is_halted, may_go, moment_by, query_waits}
use Rattle.run_model.specs.Turns.{admission, answer_to, answered_by, asks_at, begins_at, cancels_for, deed_on, delivery}
use Rattle.run_model.specs.Turns.{done_by, enabled_on, ends_at, index_of, job_deed, job_event, key_deed, live_in}
use Rattle.run_model.specs.Turns.{message_deed, nothing_done, oldest_of, signal_deed, starting, takes_turn, tally_by}
use Rattle.run_model.specs.Turns.{tells, told_by, turn_of_unit}
use Rattle.run_model.specs.Rounds.{of_told, opens_round}
use Rattle.run_laws_rounds.specs.Queries.{answer_told_in, asked_in, asks_information, is_answer_turn, is_info_due}
use Rattle.run_laws_rounds.specs.Queries.{is_info_key, is_info_signal, missing_in}
use Rattle.run_events.specs.declared.plan.Hearing.{Hearing}
use Rattle.run_events.specs.declared.input.Key.{Key as KeyName}
use Rattle.run_laws.proofs.board.ByTurn.{by_turn}
use Rattle.run_laws.proofs.told.Bounds.{IsBound, IsBoundKind, begin_cases, end_cases}

-- a request that opens a round has this number
abbrev pub IsNumbered : ℕ → Option Request → Type 0
IsNumbered n (Some (Stop round)) = round ≡ n
IsNumbered n (Some (GetInfo round)) = round ≡ n
IsNumbered n request = ⊤

-- what a deed on a board tells of rounds
pub record IsOfRound (b : Board) (d : Deed) : Type 0 where
  pub asked : query_waits d.request ≡ is_some (of_told asked_in None d.told)
  pub start : IfSome (of_told asked_in None d.told) (λ total.
      (d.request ≡ Some (GetInfo b.dispatcher.rounds.count)) × (total ≡ live_in b.units))
  pub answer : IfSome (of_told answer_told_in None d.told) (λ answer.
      (answer.index ≡ b.dispatcher.rounds.told) × (answer.total ≡ b.dispatcher.rounds.total)
      × (oldest_of b.answers ≡ Some answer.response))
  pub finish : IfSome (of_told missing_in None d.told) (λ missing.
      (query_waits b.dispatcher.rounds.asks ≡ true) × (missing ≡ b.dispatcher.rounds.total - b.dispatcher.rounds.told))
  pub alone : opens_round d.request ≡ true → d.part ≡ None
  pub number : IsNumbered b.dispatcher.rounds.count d.request

-- one that tells nothing of rounds, and opens none
pub record IsOutside (d : Deed) : Type 0 where
  pub asked : of_told asked_in None d.told ≡ None
  pub answer : of_told answer_told_in None d.told ≡ None
  pub finish : of_told missing_in None d.told ≡ None
  pub opens : opens_round d.request ≡ false

unnumbered : (n : ℕ) (request : Option Request) → opens_round request ≡ false
    → IsNumbered n request × (query_waits request ≡ false)
unnumbered n None none = (tt, refl)
unnumbered n (Some (Stop round)) none = cc
unnumbered n (Some Continue) none = (tt, refl)
unnumbered n (Some (Shutdown request)) none = (tt, refl)
unnumbered n (Some OtherCancel) none = (tt, refl)
unnumbered n (Some (GetInfo round)) none = cc

pub outside : (b : Board) (d : Deed) → IsOutside d → IsOfRound b d
outside b d it = record {
  asked = (unnumbered 0 d.request it.opens).1 ∙ sym (ap is_some it.asked);
  start = rw it.asked tt;
  answer = rw it.answer tt;
  finish = rw it.finish tt;
  alone = λ opens. let never : false ≡ true = sym it.opens ∙ opens in cc;
  number = (unnumbered b.dispatcher.rounds.count d.request it.opens).0;
}

none_outside : IsOutside nothing_done
none_outside = record { asked = refl; answer = refl; finish = refl; opens = refl }

-- a cause broadcasts no round
abbrev IsQuietCause : Option Cause → Type 0
IsQuietCause None = ⊤
IsQuietCause (Some cause) = opens_round (Some cause.request) ≡ false

caused_outside : (now : Moment) (t : Tally) (o : Option Cause) (d : Deed) → IsQuietCause o → IsOutside d
    → IsOutside (caused now t o d)
caused_outside now t None d quiet it = it
caused_outside now t (Some cause) d quiet it = record {
  asked = it.asked;
  answer = it.answer;
  finish = it.finish;
  opens = by_rank (is_above t.stats.cancel_reason cause.reason);
}
  where
    by_rank : (b : Bool) → opens_round (if b then Some cause.request else None) ≡ false
    by_rank true = quiet
    by_rank false = refl

mode_quiet : (mode : TerminateMode) → IsQuietCause (Some (too_many_failed mode))
mode_quiet Wait = refl
mode_quiet Immediate = refl

failure_quiet : (most : MaxFail) (stats : RunStats) → IsQuietCause (failure_cause most stats)
failure_quiet All stats = tt
failure_quiet (Count most mode) stats = by_count (nat_le most (failed_count stats))
  where
    by_count : (b : Bool) → IsQuietCause (if b then Some (too_many_failed mode) else None)
    by_count true = mode_quiet mode
    by_count false = tt

script_quiet : (result : ExecutionResult) → IsQuietCause (script_cause result)
script_quiet result = by_success (is_success result)
  where
    by_success : (b : Bool) → IsQuietCause (if b then None else Some script_failed)
    by_success true = tt
    by_success false = refl

cause_quiet : (rules : CancelRules) (t : Tally) (m : Message) → IsQuietCause (cause_of rules t m)
cause_quiet rules t (ScriptStart start) = tt
cause_quiet rules t (ScriptSlow slow) = tt
cause_quiet rules t (ScriptFinish finish) = script_quiet finish.status.result
cause_quiet rules t (Start start) = tt
cause_quiet rules t (Skip skip) = tt
cause_quiet rules t (Slow slow) = tt
cause_quiet rules t (AttemptFailed failure) = tt
cause_quiet rules t (Retry retry) = tt
cause_quiet rules t (Finish finish) = failure_quiet rules.max_fail t.stats

signal_quiet : (heard : ℕ) (signal : SignalKind) → IsQuietCause (Some (signal_cause heard signal))
signal_quiet heard signal = by_first (heard == 0)
  where
    by_first : (b : Bool)
        → opens_round (Some (if b then signal_cause 0 signal else signal_cause 1 signal).request) ≡ false
    by_first true = refl
    by_first false = refl

-- the delivery of a message tells nothing of rounds
abbrev TellsNone : Option ReporterEvent → Type 0
TellsNone told = (of_told asked_in None told ≡ None) × (of_told answer_told_in None told ≡ None)
    × (of_told missing_in None told ≡ None)

tells_if : (now : Moment) (kind : TestEventKind) (go : Bool)
    → asked_in kind ≡ None → answer_told_in kind ≡ None → missing_in kind ≡ None
    → TellsNone (option_map (event now) (if go then Some kind else None))
tells_if now kind true asked answer finish = (asked, answer, finish)
tells_if now kind false asked answer finish = (refl, refl, refl)

message_tells : (now : ℕ) (d : DispatcherView) (m : Message) → TellsNone (told_by now d m)
message_tells now d (ScriptStart start) = tells_if _ (SetupScriptStarted start) (may_go d.tally) refl refl refl
message_tells now d (ScriptSlow slow) = (refl, refl, refl)
message_tells now d (ScriptFinish finish) = (refl, refl, refl)
message_tells now d (Start start) =
    tells_if (moment_by now d.watch) (started_event start (with_start d.tally)) (may_go d.tally) refl refl refl
message_tells now d (Skip skip) = (refl, refl, refl)
message_tells now d (Slow slow) = (refl, refl, refl)
message_tells now d (AttemptFailed failure) = (refl, refl, refl)
message_tells now d (Retry retry) =
    tells_if (moment_by now d.watch) (retried_event retry d.tally) (may_go d.tally) refl refl refl
message_tells now d (Finish finish) = (refl, refl, refl)

delivery_outside : (b : Board) (q : List Message) → IsOutside (delivery b q)
delivery_outside b [] = none_outside
delivery_outside b (m ∷ rest) =
    let t : Tally = tally_by b.clock b.dispatcher m in
    let tells = message_tells b.clock b.dispatcher m in
    caused_outside (moment_by b.clock b.dispatcher.watch) t (cause_of b.dispatcher.rules t m)
    (message_deed b.clock b.dispatcher m (answer_to b (starting m) (go_of b.dispatcher.tally m)))
    (cause_quiet b.dispatcher.rules t m)
    (record { asked = tells.0; answer = tells.1; finish = tells.2; opens = refl })

admission_outside : (o : Option Newcomer) → IsOutside (admission o)
admission_outside None = none_outside
admission_outside (Some new) = record { asked = refl; answer = refl; finish = refl; opens = refl }

cancels_outside : (now : ℕ) (d : DispatcherView) (cause : Cause) → IsQuietCause (Some cause)
    → IsOutside (cancels_for now d cause)
cancels_outside now d cause quiet =
    caused_outside (moment_by now d.watch) d.tally (Some cause) nothing_done quiet none_outside

-- nor does the begin of a sub-run, or its end
bound_tells : (o : Option ReporterEvent) → IsBound o → TellsNone o
bound_tells None h = (refl, refl, refl)
bound_tells (Some Tick) h = absurd h
bound_tells (Some (Test event)) h = by_kind event.kind h
  where
    by_kind : (kind : TestEventKind) → IsBoundKind kind → TellsNone (Some (Test (record event { kind = kind })))
    by_kind (RunStarted e) h = (refl, refl, refl)
    by_kind (StressSubRunStarted e) h = (refl, refl, refl)
    by_kind (StressSubRunFinished e) h = (refl, refl, refl)
    by_kind (RunFinished e) h = (refl, refl, refl)
    by_kind kind h = absurd h

pub bound_outside : (d : Deed) → IsBound d.told → d.request ≡ None → IsOutside d
bound_outside d own none =
    let tells = bound_tells d.told own in
    record { asked = tells.0; answer = tells.1; finish = tells.2; opens = ap opens_round none }

begin_outside : (now : ℕ) (d : DispatcherView) → IsOutside (begins_at now d)
begin_outside now d = begin_cases IsOutside (λ told after own later. bound_outside _ own refl) now d

end_outside : (now : ℕ) (d : DispatcherView) → IsOutside (ends_at now d)
end_outside now d = end_cases IsOutside (λ told after over own later. bound_outside _ own refl) now d

-- a round of queries
asks_round : (b : Board) → IsOfRound b (asks_at b.clock (live_in b.units) b.dispatcher)
asks_round b = record {
  asked = refl;
  start = (refl, refl);
  answer = tt;
  finish = tt;
  alone = λ opens. refl;
  number = refl;
}

job_round : (b : Board) (signal : SignalKind) → IsOfRound b (job_deed b.clock b.dispatcher signal)
job_round b Tstp = by_pause (is_halted b.dispatcher)
  where
    by_pause : (h : Bool) → IsOfRound b (if h then nothing_done
        else record (tells b.clock b.dispatcher (RunPaused (job_event b.dispatcher.tally))) {
          request = Some (Stop b.dispatcher.rounds.count);
        })
    by_pause true = outside b nothing_done none_outside
    by_pause false =
        record { asked = refl; start = tt; answer = tt; finish = tt; alone = λ opens. refl; number = refl }
job_round b signal = by_pause (is_halted b.dispatcher)
  where
    by_pause : (h : Bool) → IsOfRound b (if h
        then record (tells b.clock b.dispatcher (RunContinued (job_event b.dispatcher.tally))) {
          request = Some Continue;
        } else nothing_done)
    by_pause true = record { asked = refl; start = tt; answer = tt; finish = tt; alone = λ opens. cc; number = tt }
    by_pause false = outside b nothing_done none_outside

signal_round : (b : Board) (signal : SignalKind) (heard : Option Heard)
    → IsOfRound b (signal_deed b.clock (live_in b.units) b.dispatcher signal heard)
signal_round b signal (Some ShutsDown) =
    outside b _ (cancels_outside b.clock b.dispatcher (signal_cause b.dispatcher.causes.signals signal)
    (signal_quiet b.dispatcher.causes.signals signal))
signal_round b signal (Some JobControl) = job_round b signal
signal_round b signal (Some Info) = asks_round b
signal_round b signal None = outside b nothing_done none_outside

key_round : (b : Board) (event : Option InputEvent)
    → IsOfRound b (key_deed b.clock (live_in b.units) b.dispatcher event)
key_round b (Some inputs.Enter) = outside b _ (record { asked = refl; answer = refl; finish = refl; opens = refl })
key_round b (Some inputs.Info) = asks_round b
key_round b None = outside b nothing_done none_outside

answer_round : (b : Board) (o : Option InfoResponse) → oldest_of b.answers ≡ o → IsOfRound b (answered_by b o)
answer_round b None is = outside b nothing_done none_outside
answer_round b (Some response) is = record {
  asked = refl;
  start = tt;
  answer = (refl, refl, is);
  finish = tt;
  alone = λ opens. cc;
  number = tt;
}

-- so each turn that is enabled
pub of_round : (p : Settings) (b : Board) (turn : Turn) → enabled_on p b turn ≡ true → IsOfRound b (deed_on p b turn)
of_round p b turn en =
    by_turn (λ turn named. takes_turn p b turn named ≡ true → IsOfRound b (done_by p b turn named))
    (record {
      begin = λ en. outside b _ (begin_outside b.clock b.dispatcher);
      admit = λ en. outside b _ (admission_outside (newcomer p (index_of b.dispatcher) b.units));
      deliver = λ en. outside b _ (delivery_outside b b.queue);
      named = λ turn k to other en. outside b _ (record { asked = refl; answer = refl; finish = refl; opens = refl });
      clock = λ ns en. outside b _ none_outside;
      signal = λ signal en. signal_round b signal (heard_by b.dispatcher.rules.hearing signal);
      global_due = λ en. outside b _ (cancels_outside b.clock b.dispatcher time_is_up refl);
      report_cancel = λ en. outside b _ (cancels_outside b.clock b.dispatcher event_refused refl);
      end = λ en. outside b _ (end_outside b.clock b.dispatcher);
      key = λ key en. key_round b (heard_key b.dispatcher.rules.hearing.input key);
      tick = λ en. outside b _ (record { asked = refl; answer = refl; finish = refl; opens = refl });
      stop_wait_due = λ en. outside b _ (record { asked = refl; answer = refl; finish = refl; opens = refl });
      answer = λ en. answer_round b (oldest_of b.answers) refl;
      info_due = λ en. record {
        asked = refl;
        start = tt;
        answer = tt;
        finish = (
          second_so b.dispatcher.on (query_waits b.dispatcher.rounds.asks)
              (first_so (b.dispatcher.on && query_waits b.dispatcher.rounds.asks) _ en),
          refl,
        );
        alone = λ opens. cc;
        number = tt;
      };
    })
    turn (second_so (not b.dispatcher.over) (takes_turn p b turn (turn_of_unit turn)) en)

-- what it tells of rounds is what it asks for
pub record TellsExactly (hearing : Hearing) (turn : Turn) (d : Deed) : Type 0 where
  pub asks : is_some (of_told asked_in None d.told) ≡ asks_information hearing turn
  pub answers : is_some (of_told answer_told_in None d.told) ≡ is_answer_turn turn
  pub ends : is_some (of_told missing_in None d.told) ≡ is_info_due turn

tells_outside : (hearing : Hearing) (turn : Turn) (d : Deed) → IsOutside d → asks_information hearing turn ≡ false
    → is_answer_turn turn ≡ false → is_info_due turn ≡ false → TellsExactly hearing turn d
tells_outside hearing turn d it asks answers ends = record {
  asks = ap is_some it.asked ∙ sym asks;
  answers = ap is_some it.answer ∙ sym answers;
  ends = ap is_some it.finish ∙ sym ends;
}

signal_exactly : (b : Board) (signal : SignalKind) (heard : Option Heard)
    → heard_by b.dispatcher.rules.hearing signal ≡ heard
    → TellsExactly b.dispatcher.rules.hearing (SignalCame signal)
    (signal_deed b.clock (live_in b.units) b.dispatcher signal heard)
signal_exactly b signal (Some ShutsDown) is =
    tells_outside b.dispatcher.rules.hearing (SignalCame signal) _
    (cancels_outside b.clock b.dispatcher (signal_cause b.dispatcher.causes.signals signal)
    (signal_quiet b.dispatcher.causes.signals signal)) (ap is_info_signal is) refl refl
signal_exactly b signal (Some JobControl) is =
    let it = job_told signal in record { asks = it.0 ∙ sym (ap is_info_signal is); answers = it.1; ends = it.2 }
  where
    None_told : Deed → Type 0
    None_told d = (is_some (of_told asked_in None d.told) ≡ false)
        × (is_some (of_told answer_told_in None d.told) ≡ false)
        × (is_some (of_told missing_in None d.told) ≡ false)

    stop_told : (h : Bool) → None_told (if h then nothing_done
        else record (tells b.clock b.dispatcher (RunPaused (job_event b.dispatcher.tally))) {
          request = Some (Stop b.dispatcher.rounds.count);
        })
    stop_told true = (refl, refl, refl)
    stop_told false = (refl, refl, refl)

    continue_told : (h : Bool) → None_told (if h
        then record (tells b.clock b.dispatcher (RunContinued (job_event b.dispatcher.tally))) {
          request = Some Continue;
        } else nothing_done)
    continue_told true = (refl, refl, refl)
    continue_told false = (refl, refl, refl)

    job_told : (signal : SignalKind) → None_told (job_deed b.clock b.dispatcher signal)
    job_told Tstp = stop_told (is_halted b.dispatcher)
    job_told signal = continue_told (is_halted b.dispatcher)
signal_exactly b signal (Some Info) is = record { asks = sym (ap is_info_signal is); answers = refl; ends = refl }
signal_exactly b signal None is =
    tells_outside b.dispatcher.rules.hearing (SignalCame signal) nothing_done none_outside
    (ap is_info_signal is) refl refl

key_exactly : (b : Board) (key : KeyName) (heard : Option InputEvent)
    → heard_key b.dispatcher.rules.hearing.input key ≡ heard
    → TellsExactly b.dispatcher.rules.hearing (KeyCame key) (key_deed b.clock (live_in b.units) b.dispatcher heard)
key_exactly b key (Some inputs.Enter) is = record { asks = sym (ap is_info_key is); answers = refl; ends = refl }
key_exactly b key (Some inputs.Info) is = record { asks = sym (ap is_info_key is); answers = refl; ends = refl }
key_exactly b key None is = record { asks = sym (ap is_info_key is); answers = refl; ends = refl }

answer_exactly : (b : Board) (o : Option InfoResponse) → is_some o ≡ true
    → TellsExactly b.dispatcher.rules.hearing Answer (answered_by b o)
answer_exactly b None some = cc
answer_exactly b (Some response) some = record { asks = refl; answers = refl; ends = refl }

pub exactly : (p : Settings) (b : Board) (turn : Turn) → enabled_on p b turn ≡ true
    → TellsExactly b.dispatcher.rules.hearing turn (deed_on p b turn)
exactly p b Begin en =
    tells_outside b.dispatcher.rules.hearing Begin _ (begin_outside b.clock b.dispatcher) refl refl refl
exactly p b End en =
    tells_outside b.dispatcher.rules.hearing End _ (end_outside b.clock b.dispatcher) refl refl refl
exactly p b Admit en =
    tells_outside b.dispatcher.rules.hearing Admit _
    (admission_outside (newcomer p (index_of b.dispatcher) b.units)) refl refl refl
exactly p b Deliver en =
    tells_outside b.dispatcher.rules.hearing Deliver _ (delivery_outside b b.queue) refl refl refl
exactly p b (SignalCame signal) en = signal_exactly b signal (heard_by b.dispatcher.rules.hearing signal) refl
exactly p b (KeyCame key) en = key_exactly b key (heard_key b.dispatcher.rules.hearing.input key) refl
exactly p b Answer en =
    answer_exactly b (oldest_of b.answers)
    (second_so (b.dispatcher.on && query_waits b.dispatcher.rounds.asks) (is_some (oldest_of b.answers))
    (second_so (not b.dispatcher.over) _ en))
exactly p b turn en = record { asks = refl; answers = refl; ends = refl }
