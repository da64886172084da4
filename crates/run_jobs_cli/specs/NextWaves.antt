-- What the program says of the wave that is due next.
use Rattle.std.specs.Prelude.{ℕ, ◌≡◌, ◌⊎◌, ◌≤◌, List, [], ◌∷◌, length, Bool, true, false, Some, None, Result, Ok, Err}
use Rattle.std.specs.Prelude.{codes}
use Rattle.std.specs.declared.convert.Infallible.{Infallible}
use Rattle.run_events.specs.declared.plan.Plan.{Plan}
use Rattle.run_events.specs.declared.turn.Turn.{Turn}
use Rattle.run_input.specs.declared.plan_line.RunnerKeys.{RunnerKeys}
use Rattle.run_input.specs.Input.{plan_line_of}
use Rattle.run_input.specs.Lines.{lines_of}
use Rattle.run_output.specs.declared.fault.Fault.TheVariants as plain
use Rattle.run_output.specs.Fields.{count, line_bytes, object_text}
use Rattle.run_jobs.specs.declared.waves_error.WavesError.{WavesError}
use Rattle.run_jobs.specs.declared.waves_error.WavesError.TheVariants as errors
use Rattle.run_jobs.specs.Jobs.{Batch}
use Rattle.run_jobs.specs.States.{Wave}
use Rattle.run_jobs.specs.Waves.{ComesTo, HaveRun, is_next_due, next_settings}
use Rattle.run_wave_line.specs.WaveLine.{wave_text}
use Rattle.run_cli.specs.Call.{Reading, Writing, HasTaken, HasTakenFront, HasWriteFault}
use Rattle.run_cli.specs.Plans.{plan_refusal, settings_for}
use Rattle.run_cli.specs.Short.{IsShort}
use Rattle.run_jobs_cli.specs.declared.fault.JobsFault.{JobsFault}
use Rattle.run_jobs_cli.specs.declared.fault.JobsFault.TheVariants as faults
use Rattle.run_jobs_cli.specs.JobsEnds.{EndsAtJobsFault}
use Rattle.run_jobs_cli.specs.JobsGiven.{AreGoodJobs, GivesLines, IsJobsFault}
use Rattle.run_jobs_cli.specs.RunsJobs.{waves_fault}

-- a line is the plan line of the wave after these: a reader of plan lines reads it as a plan that is accepted, and
-- whose settings are those of that wave
pub record SaysWave (batch : Batch) (waves : List Wave) (line : List ℕ) : Type 0 where
  pub keys : RunnerKeys
  pub plan : Plan
  pub is : line ≡ wave_text batch.threads plan.head.run_id plan.tests
  pub reads : plan_line_of line ≡ Some (keys, plan)
  pub accepted : plan_refusal keys plan ≡ None
  pub settings : settings_for keys plan ≡ next_settings batch waves

-- the line that no wave is due
abbrev pub none_due_text : List ℕ
none_due_text = object_text ((codes "due", Some (count 0)) ∷ [])

-- after these waves the next one is due, and this is its line, with status 0; or none is, with status 4
abbrev pub SaysNext : Batch → List Wave → List ℕ → ℕ → Type 0
SaysNext batch waves line status =
    ((is_next_due batch waves ≡ true) × SaysWave batch waves line × (status ≡ 0))
    ⊎ ((is_next_due batch waves ≡ false) × (line ≡ none_due_text) × (status ≡ 4))

-- whether an error says that a wave has no list
abbrev pub is_missing : {E : Type 0} → WavesError E → Bool
is_missing (errors.Missing wave) = true
is_missing _ = false

-- what is found of the wave after those that these lists of turns carry out, one list for each: its line, or why the
-- lists don't carry them out; want of memory says nothing
abbrev pub FindsNext : Batch → List (List Turn) → Result (List ℕ × ℕ) JobsFault → Type 0
FindsNext batch lists (Ok found) =
    (waves : List Wave) × HaveRun batch lists waves × (length waves ≡ length lists)
    × SaysNext batch waves found.0 found.1
FindsNext batch lists (Err fault) =
    (fault ≡ faults.Plain plain.Memory)
    ⊎ ((e : WavesError Infallible) × ComesTo {E = Infallible} batch lists (Err e) × (is_missing e ≡ false)
    × (fault ≡ waves_fault e))

-- a line was written, with its status; or the sink failed, or memory was wanting
abbrev pub EndsAtLine : Writing → List ℕ → ℕ → ℕ → Type 0
EndsAtLine w line wanted status =
    ((status ≡ wanted) × HasTaken w (line_bytes line) × (w.faults_after ≡ w.faults))
    ⊎ (((status ≡ 9) × HasTakenFront w (line_bytes line) × (w.faults ≤ w.faults_after) × HasWriteFault w)
    ⊎ ((status ≡ 11) × IsShort (line_bytes line) w))

-- the line of what was found was written, or that of its fault
abbrev pub EndsAtNext : Writing → ℕ → Result (List ℕ × ℕ) JobsFault → Type 0
EndsAtNext w status (Ok found) = EndsAtLine w found.0 found.1 status
EndsAtNext w status (Err fault) = EndsAtJobsFault w [] fault status

-- the source gave a fault, whose line alone was written; or jobs that are taken, of which the next wave was said
abbrev pub AnswersNextWave : Reading → Writing → ℕ → Type 0
AnswersNextWave r w status =
    ((fault : JobsFault) × IsJobsFault r fault × EndsAtJobsFault w [] fault status)
    ⊎ ((batch : Batch) × (lists : List (List Turn)) × GivesLines r (λ lines. AreGoodJobs lines batch lists)
    × ((found : Result (List ℕ × ℕ) JobsFault) × FindsNext batch lists found × EndsAtNext w status found))
