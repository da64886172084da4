-- What `generate` says.
use Rattle.std.specs.Prelude.{ℕ, ◌≡◌, ◌⊎◌, ◌≤◌, List, Result, Ok, Err}
use Rattle.run_events.specs.declared.outcome.RunOutcome.{RunOutcome}
use Rattle.run_output.specs.Fields.{line_bytes}
use Rattle.run_output.specs.Summaries.{generated_text}
use Rattle.run_output.specs.declared.fault.Fault.{Fault}
use Rattle.run_output.specs.declared.fault.Fault.TheVariants.{Memory, Report}
use Rattle.run_generate.specs.Generated.{IsSummary}
use Rattle.run_generate.specs.Plan.{generated_settings}
use Rattle.run_generate.specs.declared.generated.Generated.{Generated}
use Rattle.run_cli.specs.Call.{Writing, HasTaken, HasTakenFront, HasWriteFault}
use Rattle.run_cli.specs.Ending.{IsFinished}
use Rattle.run_cli.specs.Status.{IsOutcomeStatus}
use Rattle.run_cli.specs.Short.{IsShort}
use Rattle.run_cli.specs.Text.{fault_only, outcome_status}

-- the line of a generated run of so many tests
abbrev pub generated_line : ℕ → Generated → List ℕ
generated_line tests g = line_bytes (generated_text tests g.events g.outcome g.stats g.turns)

-- the run of the generated plan by its generated turns is over, and this is what is counted of it
abbrev pub IsOfTests : ℕ → Generated → Type 0
IsOfTests tests g = IsSummary (generated_settings tests) g

-- the line of a generated run was written, where the sink failed a front part of it, or memory was wanting
abbrev pub EndsAtSummary : Writing → ℕ → Generated → Result RunOutcome Fault → Type 0
EndsAtSummary w tests g (Ok o) =
    (o ≡ g.outcome) × HasTaken w (generated_line tests g) × (w.faults_after ≡ w.faults)
EndsAtSummary w tests g (Err Report) =
    (w.faults ≤ w.faults_after) × HasWriteFault w × HasTakenFront w (generated_line tests g)
EndsAtSummary w tests g (Err Memory) = IsShort (generated_line tests g) w
EndsAtSummary w tests g (Err _) = ⊥

-- memory was wanting: before the run's line, where of one fault line a front part went out, or once that was to be
-- written, of which a front part went out
abbrev pub GeneratesShort : ℕ → Writing → Type 0
GeneratesShort tests w = IsShort (fault_only Memory) w
    ⊎ ((g : Generated) × IsOfTests tests g × IsShort (generated_line tests g) w)

-- how `generate` ends: its run is over, and the line says so, or memory was wanting
abbrev pub IsGenerateEnd : ℕ → Writing → Result RunOutcome Fault → Type 0
IsGenerateEnd tests w (Err Memory) = GeneratesShort tests w
IsGenerateEnd tests w ending = (g : Generated) × IsOfTests tests g × EndsAtSummary w tests g ending

-- the run of the generated plan by its generated turns is over, each test has its fate, by its own turns' results, the
-- bytes that the sink took are the line of what it told and counted, and nothing else, and the status is that of the
-- outcome
pub record GenerateHeadline (tests : ℕ) (w : Writing) (status : ℕ) : Type 0 where
  pub generated : Generated
  pub summary : IsOfTests tests generated
  pub finished : IsFinished (generated_settings tests) summary.journal generated.outcome
  pub written : HasTaken w (generated_line tests generated)
  pub status_is : status ≡ outcome_status generated.outcome

-- all is as for an outcome's status, but for the sink, whose count of faults rose
abbrev pub SaysGenerateReport : ℕ → Writing → Type 0
SaysGenerateReport tests w = (g : Generated) × (s : IsOfTests tests g)
    × IsFinished (generated_settings tests) s.journal g.outcome
    × HasTakenFront w (generated_line tests g) × HasWriteFault w

-- what `generate` says of so many tests: an outcome, 9 exactly where the sink's count of faults rose, or 11 where
-- memory was wanting
pub record AnswersGenerate (tests : ℕ) (w : Writing) (status : ℕ) : Type 0 where
  pub headline : IsOutcomeStatus status → GenerateHeadline tests w status
  pub sound_sink : IsOutcomeStatus status → w.faults_after ≡ w.faults
  pub report : status ≡ 9 → SaysGenerateReport tests w
  pub memory : status ≡ 11 → GeneratesShort tests w
  pub known : IsOutcomeStatus status ⊎ ((status ≡ 9) ⊎ (status ≡ 11))
