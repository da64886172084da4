-- The line of a run's outcome.
use Rattle.std.specs.Prelude.{ℕ, List, [], ◌∷◌, Option, Some, None, option_map, codes}
use Rattle.serde_json.specs.Data.{Data, string}
use Rattle.run_events.specs.declared.outcome.RunStep.{RunStep}
use Rattle.run_events.specs.declared.outcome.RunStep.TheVariants.{SetupScript, Test}
use Rattle.run_events.specs.declared.outcome.RunOutcome.{RunOutcome}
use Rattle.run_events.specs.declared.outcome.RunOutcome.TheVariants.{NoTestsRun, Success, Failed, Cancelled}
use Rattle.run_output.specs.Fields.{object_text}

-- a step by its word
unfoldable pub step_word : RunStep → List ℕ
step_word SetupScript = codes "setup-script"
step_word Test = codes "test"

-- an outcome by its word
unfoldable pub outcome_word : RunOutcome → List ℕ
outcome_word Success = codes "success"
outcome_word NoTestsRun = codes "no-tests-run"
outcome_word (Failed step) = codes "failed"
outcome_word (Cancelled step) = codes "cancelled"

-- the step at which it failed or was cancelled
abbrev pub step_of : RunOutcome → Option RunStep
step_of Success = None
step_of NoTestsRun = None
step_of (Failed step) = Some step
step_of (Cancelled step) = Some step

-- the fields of an outcome
unfoldable pub outcome_fields : RunOutcome → List (List ℕ × Option Data)
outcome_fields outcome =
    (codes "outcome", Some (string (outcome_word outcome)))
    ∷ (codes "step", option_map (λ step. string (step_word step)) (step_of outcome))
    ∷ []

-- its line
abbrev pub outcome_text : RunOutcome → List ℕ
outcome_text outcome = object_text (outcome_fields outcome)
