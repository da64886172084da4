-- The deeds of pauses, rounds, keys and ticks: each tells one event at most, of no unit, and neither a unit nor a
-- message has a part in it.
use Rattle.std.proofs.Common.{◌≡◌, ℕ, List, [], ◌∷◌, Bool, true, false, if◌then◌else◌, Option, Some, None, refl, sym}
use Rattle.std.proofs.Common.{◌∙◌}
use Rattle.std.specs.Prelude.{⊤, IfSome}
use Rattle.run_events.specs.declared.events.ReporterEvent.{ReporterEvent}
use Rattle.run_events.specs.declared.events.ReporterEvent.TheVariants.{Tick, Test}
use Rattle.run_events.specs.declared.events.TestEventKind.{TestEventKind}
use Rattle.run_events.specs.declared.events.TestEventKind.TheVariants.{RunPaused, RunContinued, InputEnter, InfoStarted}
use Rattle.run_events.specs.declared.events.TestEventKind.TheVariants.{InfoResponse as InfoAnswer, InfoFinished}
use Rattle.run_events.specs.declared.info.InfoResponse.{InfoResponse}
use Rattle.run_events.specs.declared.input.InputEvent.{InputEvent}
use Rattle.run_events.specs.declared.input.InputEvent.TheVariants as inputs
use Rattle.run_events.specs.declared.request.Request.TheVariants.{Stop, Continue}
use Rattle.run_events.specs.declared.signal.Heard.{Heard}
use Rattle.run_events.specs.declared.signal.Heard.TheVariants.{Shutdown, JobControl, Info}
use Rattle.run_events.specs.declared.signal.Signal.{Signal as SignalKind}
use Rattle.run_events.specs.declared.signal.Signal.TheVariants.{Tstp}
use Rattle.run_model.specs.declared.dispatcher_view.DispatcherView.{DispatcherView}
use Rattle.run_model.specs.Board.{Board, Deed}
use Rattle.run_model.specs.Cancel.{Cause, cause_of, caused, signal_cause}
use Rattle.run_model.specs.Dispatch.{Moment, go_of, heard_by, is_halted, moment_by}
use Rattle.run_model.specs.Admission.{Newcomer, newcomer}
use Rattle.run_model.specs.declared.dispatcher_view.Tally.{Tally}
use Rattle.run_events.specs.Hearing.{heard_key}
use Rattle.run_events.specs.declared.message.Message.{Message}
use Rattle.run_events.specs.declared.settings.Settings.{Settings}
use Rattle.run_events.specs.declared.turn.Turn.{Turn}
use Rattle.run_laws.proofs.board.ByTurn.{by_turn}
use Rattle.run_laws.proofs.told.Bounds.{begin_cases, end_cases}
use Rattle.run_model.specs.Turns.{admission, answer_to, deed_on, delivery, done_by}
use Rattle.run_model.specs.Turns.{message_deed, live_in, oldest_of, starting}
use Rattle.run_model.specs.Turns.{tally_by, answered_by, asks_at, cancels_for, informs_at, job_deed, job_event}
use Rattle.run_model.specs.Turns.{key_deed, nothing_done, signal_deed, stops_itself, tells, ticks}
use Rattle.run_commands.specs.declared.stress_count.StressCondition.{StressCondition}
use Rattle.run_model.specs.Turns.{index_of}
use Rattle.run_model.specs.Turns.{begins_as}
use Rattle.run_model.specs.Turns.{ends_as}

-- an event of no unit: a pause, a continue, what is told of a round of queries, a key, or a tick
abbrev pub IsAsideKind : TestEventKind → Type 0
IsAsideKind (RunPaused event) = ⊤
IsAsideKind (RunContinued event) = ⊤
IsAsideKind (InfoStarted event) = ⊤
IsAsideKind (InfoAnswer event) = ⊤
IsAsideKind (InfoFinished missing) = ⊤
IsAsideKind (InputEnter event) = ⊤
IsAsideKind kind = ⊥

abbrev pub IsAsideEvent : ReporterEvent → Type 0
IsAsideEvent (Test event) = IsAsideKind event.kind
IsAsideEvent Tick = ⊤

-- a deed that tells such an event at most, and does nothing to a unit, a message or the run's course
pub record IsAside (d : Deed) : Type 0 where
  pub part : d.part ≡ None
  pub sent : d.sent ≡ None
  pub info : d.info ≡ []
  pub taken : d.taken ≡ false
  pub told : IfSome d.told IsAsideEvent
  pub cancel : d.after ≡ None
  pub cause : d.cause ≡ None
  pub begins : d.begins ≡ false
  pub ends : d.ends ≡ false
  pub over : d.over ≡ false

pub nothing_aside : IsAside nothing_done
nothing_aside = record {
  part = refl;
  sent = refl;
  info = refl;
  taken = refl;
  told = tt;
  cancel = refl;
  cause = refl;
  begins = refl;
  ends = refl;
  over = refl;
}

-- one that tells such an event, whatever it asks of the units
tells_aside : (now : ℕ) (d : DispatcherView) (kind : TestEventKind) → IsAsideKind kind → IsAside (tells now d kind)
tells_aside now d kind aside = record {
  part = refl;
  sent = refl;
  info = refl;
  taken = refl;
  told = aside;
  cancel = refl;
  cause = refl;
  begins = refl;
  ends = refl;
  over = refl;
}

asking : (now : ℕ) (d : DispatcherView) (kind : TestEventKind) (deed : Deed) → IsAsideKind kind
    → deed ≡ record (tells now d kind) { request = deed.request } → IsAside deed
asking now d kind deed aside is = rw is (record {
  part = refl;
  sent = refl;
  info = refl;
  taken = refl;
  told = aside;
  cancel = refl;
  cause = refl;
  begins = refl;
  ends = refl;
  over = refl;
})

-- the run pauses or goes on, where it isn't so already
pub job_aside : (now : ℕ) (d : DispatcherView) (signal : SignalKind) → IsAside (job_deed now d signal)
job_aside now d Tstp = by_pause (is_halted d)
  where
    by_pause : (b : Bool) → IsAside (if b then nothing_done
        else record (tells now d (RunPaused (job_event d.tally))) { request = Some (Stop d.rounds.count) })
    by_pause true = nothing_aside
    by_pause false = asking now d (RunPaused (job_event d.tally)) _ tt refl
job_aside now d signal = by_pause (is_halted d)
  where
    by_pause : (b : Bool) → IsAside (if b
        then record (tells now d (RunContinued (job_event d.tally))) { request = Some Continue }
        else nothing_done)
    by_pause true = asking now d (RunContinued (job_event d.tally)) _ tt refl
    by_pause false = nothing_aside

-- a round of queries begins, tells an answer, is over
pub ask_aside : (now live : ℕ) (d : DispatcherView) → IsAside (asks_at now live d)
ask_aside now live d = asking now d (InfoStarted _) _ tt refl

pub answer_aside : (b : Board) (o : Option InfoResponse) → IsAside (answered_by b o)
answer_aside b None = nothing_aside
answer_aside b (Some response) = tells_aside b.clock b.dispatcher (InfoAnswer _) tt

pub inform_aside : (now : ℕ) (d : DispatcherView) → IsAside (informs_at now d)
inform_aside now d = tells_aside now d (InfoFinished _) tt

-- a key, a tick, and the end of the wait for stopped units
pub key_aside : (now live : ℕ) (d : DispatcherView) (event : Option InputEvent) → IsAside (key_deed now live d event)
key_aside now live d (Some inputs.Enter) = tells_aside now d (InputEnter _) tt
key_aside now live d (Some inputs.Info) = ask_aside now live d
key_aside now live d None = nothing_aside

pub tick_aside : IsAside ticks
tick_aside = record {
  part = refl;
  sent = refl;
  info = refl;
  taken = refl;
  told = tt;
  cancel = refl;
  cause = refl;
  begins = refl;
  ends = refl;
  over = refl;
}

pub stop_aside : IsAside stops_itself
stop_aside = record {
  part = refl;
  sent = refl;
  info = refl;
  taken = refl;
  told = tt;
  cancel = refl;
  cause = refl;
  begins = refl;
  ends = refl;
  over = refl;
}

-- a signal is a cause where it shuts the run down, and else such a deed
pub by_signal : (P : Deed → Type 0) (now live : ℕ) (d : DispatcherView) (signal : SignalKind) (heard : Option Heard)
    → P (cancels_for now d (signal_cause d.causes.signals signal)) → ((deed : Deed) → IsAside deed → P deed)
    → P (signal_deed now live d signal heard)
by_signal P now live d signal (Some Shutdown) cancels aside = cancels
by_signal P now live d signal (Some JobControl) cancels aside = aside _ (job_aside now d signal)
by_signal P now live d signal (Some Info) cancels aside = aside _ (ask_aside now live d)
by_signal P now live d signal None cancels aside = aside _ nothing_aside

-- the runner stops itself with no turn of a unit
pub stops_alone : (p : Settings) (b : Board) (turn : Turn) → (deed_on p b turn).stops ≡ true
    → (deed_on p b turn).part ≡ None
stops_alone p b turn =
    by_turn (λ turn named. (done_by p b turn named).stops ≡ true → (done_by p b turn named).part ≡ None)
    (record {
      begin = begin_cases (λ d. d.stops ≡ true → d.part ≡ None) (λ told after own later s. refl) b.clock b.dispatcher;
      admit = admits (newcomer p (index_of b.dispatcher) b.units);
      deliver = delivers b.queue;
      named = λ turn k to other s. cc;
      clock = λ ns s. refl;
      signal = λ signal. by_signal (λ d. d.stops ≡ true → d.part ≡ None) b.clock (live_in b.units) b.dispatcher signal
          (heard_by b.dispatcher.rules.hearing signal) (λ s. refl) (λ d aside s. aside.part);
      global_due = λ s. refl;
      report_cancel = λ s. refl;
      end = end_cases (λ d. d.stops ≡ true → d.part ≡ None) (λ told after over own later s. refl) b.clock b.dispatcher;
      key = λ key s. (key_aside b.clock (live_in b.units) b.dispatcher
          (heard_key b.dispatcher.rules.hearing.input key)).part;
      tick = λ s. refl;
      stop_wait_due = λ s. refl;
      answer = λ s. (answer_aside b (oldest_of b.answers)).part;
      info_due = λ s. refl;
    })
    turn
  where
    admits : (o : Option Newcomer) → (admission o).stops ≡ true → (admission o).part ≡ None
    admits None s = refl
    admits (Some new) s = cc

    by_cause : (now : Moment) (t : Tally) (o : Option Cause) (d : Deed) → d.stops ≡ false
        → (caused now t o d).stops ≡ false
    by_cause now t None d none = none
    by_cause now t (Some cause) d none = none

    delivers : (q : List Message) → (delivery b q).stops ≡ true → (delivery b q).part ≡ None
    delivers [] s = refl
    delivers (m ∷ rest) s =
        let t : Tally = tally_by b.clock b.dispatcher m in
        let never : false ≡ true = sym (by_cause (moment_by b.clock b.dispatcher.watch) t
        (cause_of b.dispatcher.rules t m)
        (message_deed b.clock b.dispatcher m (answer_to b (starting m) (go_of b.dispatcher.tally m))) refl) ∙ s in
        cc
