-- What a cause asks of each live unit, and what a pause, a continue and a round of queries ask of it.
use Rattle.std.specs.Prelude.{◌≡◌, ◌++◌, List, [], ◌∷◌, if◌then◌else◌, Option, Some, None}
use Rattle.run_events.specs.declared.cancel.CancelReason.{CancelReason}
use Rattle.run_events.specs.declared.cancel.CancelReason.TheVariants as reasons
use Rattle.run_events.specs.declared.request.Request.{Request}
use Rattle.run_events.specs.declared.input.InputEvent.{InputEvent}
use Rattle.run_events.specs.declared.input.InputEvent.TheVariants as inputs
use Rattle.run_events.specs.declared.request.Request.TheVariants.{Stop, Continue, Shutdown, OtherCancel, GetInfo}
use Rattle.run_events.specs.declared.request.ShutdownRequest.TheVariants.{Interrupt, Term, Hangup, Quit}
use Rattle.run_events.specs.declared.request.ShutdownRequest.TheVariants.{TestFailureImmediate, Twice}
use Rattle.run_events.specs.declared.settings.Settings.{Settings}
use Rattle.run_events.specs.declared.signal.Heard.{Heard}
use Rattle.run_events.specs.declared.signal.Heard.TheVariants as heard
use Rattle.run_events.specs.declared.signal.Signal.{Signal as SignalKind}
use Rattle.run_events.specs.declared.signal.Signal.TheVariants as signals
use Rattle.run_events.specs.declared.turn.Turn.{Turn}
use Rattle.run_events.specs.declared.turn.Turn.TheVariants.{Deliver, GlobalDue, Key, ReportCancel, Signal}
use Rattle.run_model.specs.declared.entry.Entry.{Entry}
use Rattle.run_model.specs.declared.happening.Happening.{Happening}
use Rattle.run_events.specs.Hearing.{heard_key}
use Rattle.run_model.specs.Dispatch.{heard_by}
use Rattle.run_model.specs.Journal.{IsLegal, past_of}
use Rattle.run_model.specs.Rounds.{round_count}
use Rattle.run_model.specs.Turns.{happening}
use Rattle.run_model.specs.Words.{is_run_paused, reason, sub_run}
use Rattle.run_laws.specs.Cancels.{rises}

-- what a turn that is a cause for this reason asks of each live unit: to end its child, by the signal of the request,
-- or to start no further attempt. No other turn is a cause, nor one of these for another reason
abbrev pub request_for : Turn → Option CancelReason → Option Request
request_for (Signal signals.Int) (Some reasons.Interrupt) = Some (Shutdown Interrupt)
request_for (Signal signals.Hup) (Some reasons.Signal) = Some (Shutdown Hangup)
request_for (Signal signals.Term) (Some reasons.Signal) = Some (Shutdown Term)
request_for (Signal signals.Quit) (Some reasons.Signal) = Some (Shutdown Quit)
request_for (Signal signal) (Some reasons.SecondSignal) = Some (Shutdown Twice)
request_for GlobalDue (Some reasons.GlobalTimeout) = Some (Shutdown Term)
request_for ReportCancel (Some reasons.ReportError) = Some OtherCancel
request_for Deliver (Some reasons.SetupScriptFailure) = Some OtherCancel
request_for Deliver (Some reasons.TestFailure) = Some OtherCancel
request_for Deliver (Some reasons.TestFailureImmediate) = Some (Shutdown TestFailureImmediate)
request_for _ _ = None

-- what a signal that is no cause asks of each live unit after other turns, by what the run hears it as: to stop, in a
-- new round, where the run isn't paused; to go on where it is; and what it is doing, in a new round
abbrev pub job_request : List Happening → SignalKind → Option Request
job_request past signals.Tstp = if is_run_paused past then None else Some (Stop (round_count (sub_run past)))
job_request past signals.Cont = if is_run_paused past then Some Continue else None
job_request past _ = None

abbrev pub signal_request : List Happening → SignalKind → Option Heard → Option Request
signal_request past signal (Some heard.JobControl) = job_request past signal
signal_request past signal (Some heard.Info) = Some (GetInfo (round_count (sub_run past)))
signal_request past signal _ = None

-- and a key
abbrev pub key_request : List Happening → Option InputEvent → Option Request
key_request past (Some inputs.Info) = Some (GetInfo (round_count (sub_run past)))
key_request past _ = None

-- so each turn that is no cause: no other one asks anything
abbrev pub request_besides : Settings → List Happening → Turn → Option Request
request_besides p past (Signal signal) = signal_request past signal (heard_by p.plan.hearing signal)
request_besides p past (Key key) = key_request past (heard_key p.plan.hearing.input key)
request_besides p past _ = None

-- a turn after others asks what its cause asks where its reason is above each reason before it in its sub-run, and else
-- what it asks besides
abbrev pub AsksForItsCause : Settings → List Happening → Happening → Type 0
AsksForItsCause p past x =
    x.request
    ≡ (if rises (reason (sub_run past)) x.cause then request_for x.turn x.cause else request_besides p past x.turn)

-- that holds of each turn of every legal journal
abbrev pub RequestsAreOfCauses : Type 0
RequestsAreOfCauses = (p : Settings) (journal : List Entry) (e : Entry) → IsLegal p (journal ++ e ∷ [])
    → AsksForItsCause p (past_of p journal) (happening p (past_of p journal) e)
