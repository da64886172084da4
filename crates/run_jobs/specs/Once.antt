-- How often each job of a wave is told started and finished.
use Rattle.std.specs.Prelude.{ℕ, List}
use Rattle.run_events.specs.declared.turn.Turn.{Turn}
use Rattle.run_model.specs.Journal.{past_of}
use Rattle.run_laws_calls.specs.Counts.{IsToldByItsFate}
use Rattle.run_jobs.specs.Jobs.{Batch}
use Rattle.run_jobs.specs.States.{Wave}
use Rattle.run_jobs.specs.Waves.{HasRun, next_settings}

-- each job of a wave that ran is told started just once unless it was never started, and finished just once unless it
-- was never started or was left, and no other number is told so
abbrev pub JobsAreToldOnce : Type 0
JobsAreToldOnce = (batch : Batch) (lists : List (List Turn)) (waves : List Wave) (wave : Wave)
    (has : HasRun batch lists waves wave) (unit : ℕ)
    → IsToldByItsFate (next_settings batch waves) (past_of (next_settings batch waves) has.journal) unit
