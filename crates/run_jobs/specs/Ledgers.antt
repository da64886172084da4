-- What a ledger of results has heard.
use Rattle.std.specs.Prelude.{ℕ, ◌≡◌, List}
use Rattle.std.specs.BTreeMap.{get}
use Rattle.std.specs.Ordering.{nat_cmp}
use Rattle.run_events.specs.declared.events.ReporterEvent.{ReporterEvent}
use Rattle.run_jobs.specs.declared.job.JobState.{JobState}
use Rattle.run_jobs.specs.declared.ledger.Results.{Results}
use Rattle.run_jobs.specs.States.{last_result, state_told}

-- results are those that events tell, the last of each test
abbrev pub IsResultsOf : Results → List ReporterEvent → Type 0
IsResultsOf results events = (unit : ℕ) → get nat_cmp results.passed unit ≡ last_result unit events

-- the state that results give to the job that is this test
abbrev pub state_kept : Results → ℕ → JobState
state_kept results unit = state_told (get nat_cmp results.passed unit)
