-- What a generated run says, and where it stops short.
use Rattle.std.specs.Prelude.{ℕ, ◌≡◌, ◌⊎◌, List, length, Some, None, false}
use Rattle.run_events.specs.declared.settings.Settings.{Settings}
use Rattle.run_events.specs.declared.turn.Turn.{Turn}
use Rattle.run_model.specs.Journal.{past_of, IsLegal, outcome}
use Rattle.run_model.specs.Turns.{enabled}
use Rattle.run_model.specs.Words.{stats, sub_run, told}
use Rattle.run_model.specs.declared.entry.Entry.{Entry}
use Rattle.run_engine.specs.declared.errors.StepError.{StepError}
use Rattle.run_engine.specs.declared.errors.StepError.TheVariants as steps
use Rattle.run_generate.specs.Turns.{IsGenerated, next_turn}
use Rattle.run_generate.specs.declared.generated.GenerateError.{GenerateError}
use Rattle.run_generate.specs.declared.generated.GenerateError.TheVariants as errors
use Rattle.run_generate.specs.declared.generated.Generated.{Generated}

-- why a turn that comes next was not taken
abbrev pub error_of_step : StepError → GenerateError
error_of_step steps.OutOfMemory = errors.OutOfMemory
error_of_step error = errors.Unfinished

-- a run of these settings whose turns are the generated ones is over, with this outcome, and all that is counted of it
-- is so: the events that it told, their statistics, and its turns
pub record IsSummary (p : Settings) (g : Generated) : Type 0 where
  pub journal : List Entry
  pub legal : IsLegal p journal
  pub generated : IsGenerated p journal
  pub over : outcome p (past_of p journal) ≡ Some g.outcome
  pub events : g.events ≡ length (told (past_of p journal))
  pub stats_are : g.stats ≡ stats p (sub_run (past_of p journal))
  pub turns : g.turns ≡ length journal

-- such a run stops short: it has no outcome, and its journal is full, or no turn comes next, or one that isn't enabled
pub record StopsShort (p : Settings) : Type 0 where
  pub journal : List Entry
  pub legal : IsLegal p journal
  pub generated : IsGenerated p journal
  pub goes_on : outcome p (past_of p journal) ≡ None
  pub why : (length journal ≡ 4294967295)
      ⊎ ((turn : Turn) → next_turn p journal ≡ Some turn → enabled p (past_of p journal) turn ≡ false)
