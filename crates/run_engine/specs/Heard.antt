-- What the reporter of a run has told by now, and what its children were asked.
use Rattle.std.specs.Prelude.{ℕ, ◌≡◌, ◌⊎◌, ◌<◌, List, [], ◌++◌, length, map, Bool, false, Option}
use Rattle.run_events.specs.declared.settings.Settings.{Settings}
use Rattle.run_events.specs.declared.turn.Turn.{Turn}
use Rattle.run_events.specs.declared.ask.Ask.{Ask}
use Rattle.run_events.specs.declared.events.ReporterEvent.{ReporterEvent}
use Rattle.run_model.specs.declared.entry.Entry.{Entry}
use Rattle.run_model.specs.Words.{answers, asked}
use Rattle.run_engine.specs.World.{World, history_of, flagged}
use Rattle.run_engine.specs.Broken.{IsPart}

-- these answers and asks are none, or the first of those of one further turn
abbrev pub IsFurther : Settings → List Entry → List (ReporterEvent × Bool) → List (ℕ × Ask) → Type 0
IsFurther p journal extra sent =
    ((extra ≡ []) × (sent ≡ [])) ⊎ ((turn : Turn) × IsPart p journal turn extra sent)

-- a reporter has told the events of a run's journal, refused as in it, and the children were asked its asks; where the
-- run is broken a part of one further turn's may have gone out as well, for which its journal has room
pub record IsHeard {R E C : Type 0} (tells : R → List (ReporterEvent × Option E) → Type 0)
    (asks : C → List (ℕ × Ask) → Type 0) (r : R) (c : C) (w : World) : Type 0 where
  pub events : List (ReporterEvent × Option E)
  pub told : tells r events
  pub extra : List (ReporterEvent × Bool)
  pub sent : List (ℕ × Ask)
  pub flags : map flagged events ≡ answers (history_of w) ++ extra
  pub asked : asks c (asked (history_of w) ++ sent)
  pub part : IsFurther w.settings w.journal extra sent
  pub whole : w.broken ≡ false → (extra ≡ []) × (sent ≡ [])
  pub room : ((extra ≡ []) × (sent ≡ [])) ⊎ (length w.journal < 4294967295)
