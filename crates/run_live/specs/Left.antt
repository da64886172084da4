-- What the reporter of a run that was given up has told, and of which turns it was told.
use Rattle.std.specs.Prelude.{ℕ, ◌≡◌, ◌++◌, List, map, Bool, Option}
use Rattle.run_events.specs.declared.settings.Settings.{Settings}
use Rattle.run_events.specs.declared.ask.Ask.{Ask}
use Rattle.run_events.specs.declared.turn.Turn.{Turn}
use Rattle.run_events.specs.declared.events.ReporterEvent.{ReporterEvent}
use Rattle.run_model.specs.declared.entry.Entry.{Entry}
use Rattle.run_model.specs.Words.{answers}
use Rattle.run_model.specs.Journal.{past_of, IsLegal}
use Rattle.run_laws.specs.Course.{turns_of}
use Rattle.run_engine.specs.Heard.{IsFurther}
use Rattle.run_engine.specs.World.{flagged}

-- a reporter has told the events of some legal journal, and of one further turn's a part at most
pub record HasToldSome {R E : Type 0} (tells : R → List (ReporterEvent × Option E) → Type 0) (report : R) : Type 0
  where
    pub settings : Settings
    pub journal : List Entry
    pub legal : IsLegal settings journal
    pub events : List (ReporterEvent × Option E)
    pub told : tells report events
    pub extra : List (ReporterEvent × Bool)
    pub sent : List (ℕ × Ask)
    pub flags : map flagged events ≡ answers (past_of settings journal) ++ extra
    pub part : IsFurther settings journal extra sent

-- a reporter was told of the turns of some legal journal
pub record HasTakenSome {R : Type 0} (taken : R → List Turn → Type 0) (report : R) : Type 0 where
  pub settings : Settings
  pub journal : List Entry
  pub legal : IsLegal settings journal
  pub turns : taken report (turns_of journal)
