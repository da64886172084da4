-- Where a run pauses, goes on and ends, and where its runner stops itself.
use Rattle.std.specs.Prelude.{◌≡◌, List, [], ◌∷◌, ◌++◌, Bool, true, false, ◌&&◌, ◌||◌, not, Option, Some}
use Rattle.std.specs.Prelude.{None, is_some, filter_map, ⊤}
use Rattle.std.specs.List.{list_all}
use Rattle.run_events.specs.declared.ask.Ask.{Ask}
use Rattle.run_events.specs.declared.ask.Ask.TheVariants.{StopSelf}
use Rattle.run_events.specs.declared.events.ReporterEvent.{ReporterEvent}
use Rattle.run_events.specs.declared.events.ReporterEvent.TheVariants.{Test}
use Rattle.run_events.specs.declared.events.TestEventKind.{TestEventKind}
use Rattle.run_events.specs.declared.events.TestEventKind.TheVariants.{RunPaused, RunContinued}
use Rattle.run_events.specs.declared.settings.Settings.{Settings}
use Rattle.run_events.specs.declared.signal.Signal.TheVariants as signals
use Rattle.run_events.specs.declared.turn.Turn.{Turn}
use Rattle.run_events.specs.declared.turn.Turn.TheVariants.{End, Signal}
use Rattle.run_model.specs.declared.entry.Entry.{Entry}
use Rattle.run_model.specs.declared.happening.Happening.{Happening}
use Rattle.run_model.specs.Admission.{is_done}
use Rattle.run_model.specs.Journal.{IsLegal, past_of}
use Rattle.run_model.specs.Turns.{enabled, happening, is_empty}
use Rattle.run_model.specs.Words.{is_run_paused, queue, sub_run, told, units}
use Rattle.run_laws_cancel.specs.Enabled.{continues, is_free, is_stop_wait_due}

-- whether an event tells that the run is paused
abbrev pub pauses_in : TestEventKind → Bool
pauses_in (RunPaused event) = true
pauses_in _ = false

abbrev pub pauses : Option ReporterEvent → Bool
pauses (Some (Test event)) = pauses_in event.kind
pauses _ = false

-- whether a turn is a tstp, and whether it is a cont
abbrev pub is_tstp : Turn → Bool
is_tstp (Signal signals.Tstp) = true
is_tstp _ = false

abbrev pub is_cont : Turn → Bool
is_cont (Signal signals.Cont) = true
is_cont _ = false

-- a tstp and a cont tell that alone, ask it of the live units where they tell it, and ask nothing else
pub record DoesNoMore (x : Happening) : Type 0 where
  pub told : is_some x.told ≡ (pauses x.told || continues x.told)
  pub request : is_some x.request ≡ (pauses x.told || continues x.told)
  pub after : x.after ≡ None
  pub asked : x.asked ≡ None

-- a turn after a history tells that the run is paused exactly where it is a tstp and the run isn't paused, and that it
-- goes on exactly where it is a cont and the run is; so a tstp in a pause does nothing, nor does a cont outside of one
pub record TellsItsPause (past : List Happening) (x : Happening) : Type 0 where
  pub paused : pauses x.told ≡ (is_tstp x.turn && not (is_run_paused past))
  pub continued : continues x.told ≡ (is_cont x.turn && is_run_paused past)
  pub no_more : (is_tstp x.turn || is_cont x.turn) ≡ true → DoesNoMore x

-- that holds of each turn of every legal journal
abbrev pub PausesAreOfSignals : Type 0
PausesAreOfSignals = (p : Settings) (journal : List Entry) (e : Entry) → IsLegal p (journal ++ e ∷ [])
    → TellsItsPause (past_of p journal) (happening p (past_of p journal) e)

-- whether an event tells that the run is paused, or that it goes on, if it tells one of them; and what events tell so
abbrev pub pause_told_in : TestEventKind → Option Bool
pause_told_in (RunPaused event) = Some true
pause_told_in (RunContinued event) = Some false
pause_told_in _ = None

abbrev pub pause_told : ReporterEvent → Option Bool
pause_told (Test event) = pause_told_in event.kind
pause_told _ = None

abbrev pub pauses_told : List ReporterEvent → List Bool
pauses_told events = filter_map pause_told events

-- they alternate, beginning with this
abbrev pub AlternateFrom : Bool → List Bool → Type 0
AlternateFrom first [] = ⊤
AlternateFrom first (b ∷ later) = (b ≡ first) × AlternateFrom (not first) later

-- after every legal journal they do, beginning with a pause
abbrev pub PausesAlternate : Type 0
PausesAlternate = (p : Settings) (journal : List Entry) → IsLegal p journal
    → AlternateFrom true (pauses_told (told (past_of p journal)))

-- whether each message of a sub-run was delivered, and each script and test was admitted and is over
abbrev pub is_all_done : Settings → List Happening → Bool
is_all_done p run = is_empty (queue run) && list_all is_done (units p run)

-- after every legal journal the run can end exactly where its newest sub-run is free and all done, and isn't paused
abbrev pub PausedRunsGoOn : Type 0
PausedRunsGoOn = (p : Settings) (journal : List Entry) → IsLegal p journal
    → enabled p (past_of p journal) End
    ≡ (is_free (past_of p journal) && is_all_done p (sub_run (past_of p journal))
    && not (is_run_paused (past_of p journal)))

-- whether the runner is asked to stop itself
abbrev pub asks_stop : Option Ask → Bool
asks_stop (Some StopSelf) = true
asks_stop _ = false

-- each turn of a legal journal asks that exactly where it is the end of the wait for stopped units
abbrev pub RunnerIsAskedToStop : Type 0
RunnerIsAskedToStop = (p : Settings) (journal : List Entry) (e : Entry) → IsLegal p (journal ++ e ∷ [])
    → asks_stop (happening p (past_of p journal) e).asked ≡ is_stop_wait_due e.turn
