-- What a run that is cancelled leaves out, by what was told.
use Rattle.std.specs.Prelude.{ℕ, ◌≡◌, List, [], ◌∷◌, Bool, true, false, Option, None, is_some}
use Rattle.std.specs.List.{list_any}
use Rattle.std.specs.Option.{option_or}
use Rattle.run_events.specs.declared.cancel.CancelReason.{CancelReason}
use Rattle.run_events.specs.declared.events.ReporterEvent.{ReporterEvent}
use Rattle.run_events.specs.declared.events.ReporterEvent.TheVariants.{Test}
use Rattle.run_events.specs.declared.events.TestEventKind.{TestEventKind}
use Rattle.run_events.specs.declared.events.TestEventKind.TheVariants.{RunBeginCancel, RunBeginKill}
use Rattle.run_events.specs.declared.settings.Settings.{Settings}
use Rattle.run_model.specs.declared.entry.Entry.{Entry}
use Rattle.run_model.specs.declared.happening.Happening.{Happening}
use Rattle.run_model.specs.Journal.{IsLegal, past_of}
use Rattle.run_model.specs.Story.{never_started, was_left}
use Rattle.run_model.specs.Words.{reason, sub_run, told}
use Rattle.run_laws.specs.Cancels.{reason_told}

-- whether an event tells that the run is cancelled, or killed
abbrev pub tells_cancel_in : TestEventKind → Bool
tells_cancel_in (RunBeginCancel cancelled) = true
tells_cancel_in (RunBeginKill cancelled) = true
tells_cancel_in _ = false

abbrev pub tells_cancel : ReporterEvent → Bool
tells_cancel (Test event) = tells_cancel_in event.kind
tells_cancel _ = false

-- the reason with which the latest of some events tells that
abbrev pub latest_reason : List ReporterEvent → Option CancelReason
latest_reason [] = None
latest_reason (e ∷ later) = option_or (latest_reason later) (reason_told e)

-- a cause came in a sub-run exactly where one of its events tells that the run is cancelled, and the reason of the
-- sub-run is that of the latest such event
pub record AreCausesTold (run : List Happening) : Type 0 where
  pub any : is_some (reason run) ≡ list_any tells_cancel (told run)
  pub latest : reason run ≡ latest_reason (told run)

-- that holds of the newest sub-run after every legal journal
abbrev pub CausesAreTold : Type 0
CausesAreTold = (p : Settings) (journal : List Entry) → IsLegal p journal → AreCausesTold (sub_run (past_of p journal))

-- no unit was never started, or left between two attempts
pub record IsUnstopped (run : List Happening) (k : ℕ) : Type 0 where
  pub started : never_started k run ≡ false
  pub stayed : was_left k run ≡ false

-- where no event of the newest sub-run told that the run is cancelled, that holds in it of each unit, after every legal
-- journal
abbrev pub NothingStops : Type 0
NothingStops = (p : Settings) (journal : List Entry) → IsLegal p journal
    → list_any tells_cancel (told (sub_run (past_of p journal))) ≡ false
    → (k : ℕ) → IsUnstopped (sub_run (past_of p journal)) k
