-- The event that tells that a run starts.
use Rattle.std.specs.Prelude.{◌≡◌, List, [], ◌∷◌, ◌++◌, length, Bool, true, false, Option, Some, None, IfSome, is_some}
use Rattle.std.specs.List.{All, list_any}
use Rattle.run_events.specs.declared.settings.Settings.{Settings}
use Rattle.run_events.specs.declared.turn.Turn.{Turn}
use Rattle.run_events.specs.declared.turn.Turn.TheVariants.{Begin}
use Rattle.run_events.specs.declared.events.ReporterEvent.{ReporterEvent}
use Rattle.run_events.specs.declared.events.ReporterEvent.TheVariants.{Test}
use Rattle.run_events.specs.declared.events.RunStarted.{RunStarted}
use Rattle.run_events.specs.declared.events.TestEventKind.{TestEventKind}
use Rattle.run_events.specs.declared.events.TestEventKind.TheVariants.{RunStarted as RunStarts}
use Rattle.run_model.specs.declared.entry.Entry.{Entry}
use Rattle.run_model.specs.declared.happening.Happening.{Happening}
use Rattle.run_model.specs.Words.{events_in, sub_run, ended_runs}
use Rattle.run_model.specs.Turns.{happening}
use Rattle.run_model.specs.Journal.{IsLegal, past_of}
use Rattle.std.specs.Prelude.{◌&&◌, ◌==◌}

-- the start of a run that an event tells, if it tells that
abbrev pub run_start_in : TestEventKind → Option RunStarted
run_start_in (RunStarts start) = Some start
run_start_in _ = None

abbrev pub run_start : ReporterEvent → Option RunStarted
run_start (Test event) = run_start_in event.kind
run_start _ = None

-- whether a turn begins a sub-run
abbrev pub is_begin : Turn → Bool
is_begin Begin = true
is_begin _ = false

-- what is told of a run as it starts is what the settings and their plan say
pub record IsStartOf (p : Settings) (start : RunStarted) : Type 0 where
  pub run_id : start.run_id ≡ p.plan.head.run_id
  pub tests : start.tests ≡ length p.plan.tests
  pub args : start.args ≡ p.plan.head.args
  pub profile : start.profile ≡ p.plan.head.profile
  pub stress : start.stress ≡ p.stress

-- a turn tells that the run starts exactly where it begins the first sub-run, with what the plan says; and a begin is
-- the first turn of its sub-run
pub record TellsRunStart (p : Settings) (past : List Happening) (x : Happening) : Type 0 where
  pub exactly : list_any (λ event. is_some (run_start event)) (events_in x)
      ≡ (is_begin x.turn && length (ended_runs past) == 0)
  pub first : is_begin x.turn ≡ true → sub_run (x ∷ past) ≡ x ∷ []
  pub of_plan : All (λ event. IfSome (run_start event) (IsStartOf p)) (events_in x)

-- that holds of each turn of every legal journal
abbrev pub RunStartsWithPlan : Type 0
RunStartsWithPlan = (p : Settings) (journal : List Entry) (e : Entry) → IsLegal p (journal ++ e ∷ [])
    → TellsRunStart p (past_of p journal) (happening p (past_of p journal) e)
