-- The line of a generated run.
use Rattle.std.specs.Prelude.{ℕ, List, [], ◌∷◌, Option, Some, codes}
use Rattle.serde_json.specs.Data.{Data, string}
use Rattle.run_events.specs.declared.outcome.RunOutcome.{RunOutcome}
use Rattle.run_events.specs.declared.stats.RunStats.{RunStats}
use Rattle.run_output.specs.Fields.{count, object_text}
use Rattle.run_output.specs.Outcomes.{outcome_word}
use Rattle.run_output.specs.Stats.{stats_data}

-- the fields of the run of a plan of so many tests: how many events it told, its outcome without the step, its
-- statistics, and how many turns it took
unfoldable pub generated_fields : ℕ → ℕ → RunOutcome → RunStats → ℕ → List (List ℕ × Option Data)
generated_fields tests events outcome stats turns =
    (codes "events", Some (count events))
    ∷ (codes "generate", Some (count tests))
    ∷ (codes "outcome", Some (string (outcome_word outcome)))
    ∷ (codes "stats", Some (stats_data stats))
    ∷ (codes "turns", Some (count turns))
    ∷ []

-- its line
abbrev pub generated_text : ℕ → ℕ → RunOutcome → RunStats → ℕ → List ℕ
generated_text tests events outcome stats turns = object_text (generated_fields tests events outcome stats turns)
