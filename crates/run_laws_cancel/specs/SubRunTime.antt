-- How long a sub-run of a stress run is told to have taken.
use Rattle.std.specs.Prelude.{ℕ, ◌≡◌, ◌+◌, List, [], ◌∷◌, ◌++◌, Bool, false, ◌&&◌, ◌||◌, not, if◌then◌else◌}
use Rattle.std.specs.Prelude.{Option, Some, None, IfSome}
use Rattle.run_events.specs.declared.events.ReporterEvent.{ReporterEvent}
use Rattle.run_events.specs.declared.events.ReporterEvent.TheVariants.{Test}
use Rattle.run_events.specs.declared.events.TestEventKind.{TestEventKind}
use Rattle.run_events.specs.declared.events.TestEventKind.TheVariants.{StressSubRunFinished}
use Rattle.run_events.specs.declared.settings.Settings.{Settings}
use Rattle.run_events.specs.declared.turn.Turn.TheVariants.{End}
use Rattle.run_model.specs.declared.entry.Entry.{Entry}
use Rattle.run_model.specs.declared.happening.Happening.{Happening}
use Rattle.run_model.specs.Journal.{IsLegal, past_of}
use Rattle.run_model.specs.Turns.{happening}
use Rattle.run_model.specs.Words.{ns_of}
use Rattle.run_laws_cancel.specs.Enabled.{continues, is_stop_wait_due}
use Rattle.run_laws_cancel.specs.RunTurns.{is_end}

-- whether the runner is stopped since the latest end: the wait for stopped units was over, with which it stops itself,
-- and the run wasn't told to go on since; and by how much the turns since that end moved the clock while it wasn't
abbrev pub is_stopped_since : List Happening → Bool
is_stopped_since [] = false
is_stopped_since (x ∷ past) =
    not (is_end x.turn) && (is_stop_wait_due x.turn || (not (continues x.told) && is_stopped_since past))

abbrev pub time_since_end : List Happening → ℕ
time_since_end [] = 0
time_since_end (x ∷ past) =
    if is_end x.turn then 0
    else time_since_end past + (if is_stopped_since (x ∷ past) then 0 else ns_of x.turn)

-- the time that an event tells of a sub-run that ends, if it does
abbrev pub sub_elapsed_in : TestEventKind → Option ℕ
sub_elapsed_in (StressSubRunFinished event) = Some event.sub_elapsed
sub_elapsed_in _ = None

abbrev pub sub_elapsed_told : Option ReporterEvent → Option ℕ
sub_elapsed_told (Some (Test event)) = sub_elapsed_in event.kind
sub_elapsed_told _ = None

-- an end of a legal journal that tells how long its sub-run took tells that time
abbrev pub SubRunsAreTimed : Type 0
SubRunsAreTimed = (p : Settings) (journal : List Entry) (e : Entry) → IsLegal p (journal ++ e ∷ []) → e.turn ≡ End
    → IfSome (sub_elapsed_told (happening p (past_of p journal) e).told)
    (λ time. time ≡ time_since_end (past_of p journal))
