-- What a ledger has heard after turns were taken.
use Rattle.std.specs.Prelude.{ℕ, ◌≡◌, ◌⊎◌, List, Bool, true, false, Result, Ok, Err, ⊤}
use Rattle.std.specs.declared.convert.Infallible.{Infallible}
use Rattle.run_events.specs.declared.outcome.RunOutcome.{RunOutcome}
use Rattle.run_events.specs.declared.settings.Settings.{Settings}
use Rattle.run_events.specs.declared.turn.Turn.{Turn}
use Rattle.run_model.specs.declared.entry.Entry.{Entry}
use Rattle.run_model.specs.Journal.{past_of}
use Rattle.run_model.specs.Words.{is_over, told}
use Rattle.run_laws.specs.Course.{IsJournalOf, Stops, refuses_none}
use Rattle.run_engine.specs.declared.errors.TestRunnerExecuteErrors.{TestRunnerExecuteErrors}
use Rattle.run_engine.specs.declared.errors.TestRunnerExecuteErrors.TheVariants as engine
use Rattle.run_rerun.specs.declared.answers.RerunError.{RerunError}
use Rattle.run_rerun.specs.declared.answers.RerunError.TheVariants.{Plan as Refused, NotEnabled, ThirdSignal}
use Rattle.run_rerun.specs.declared.answers.RerunError.TheVariants.{OutOfMemory}
use Rattle.run_rerun.specs.declared.ledger.Ledger.{Ledger}
use Rattle.run_rerun.specs.Ledgers.{IsLedgerOf}
use Rattle.run_rerun.specs.Runs.{stop_error}

-- an answer to turns as it is here: whether the run is over
abbrev pub as_rerun : Result RunOutcome (TestRunnerExecuteErrors Infallible) → Result Bool RerunError
as_rerun (Ok outcome) = Ok true
as_rerun (Err engine.Unfinished) = Ok false
as_rerun (Err (engine.NotEnabled place)) = Err (NotEnabled place)
as_rerun (Err (engine.ThirdSignal place)) = Err (ThirdSignal place)
as_rerun (Err (engine.Report e)) = Err OutOfMemory
as_rerun (Err engine.OutOfMemory) = Err OutOfMemory

-- a ledger has heard what just these turns tell a reporter that refuses nothing, and the run is over then or not
abbrev pub HasHeard : Settings → List Turn → Ledger → Bool → Type 0
HasHeard p turns ledger over = (journal : List Entry) × IsJournalOf p turns refuses_none journal
    × IsLedgerOf ledger (told (past_of p journal)) × (over ≡ is_over (past_of p journal))

-- what each answer says of the turns, and of the ledger
abbrev pub SaysTaken : Settings → List Turn → Ledger → Result Bool RerunError → Type 0
SaysTaken p turns ledger (Ok over) = HasHeard p turns ledger over
SaysTaken p turns ledger (Err (NotEnabled place)) = Stops p turns refuses_none place false
SaysTaken p turns ledger (Err (ThirdSignal place)) = Stops p turns refuses_none place true
SaysTaken p turns ledger (Err OutOfMemory) = ⊤
SaysTaken p turns ledger (Err Refused) = ⊥

-- what turns are answered, unless memory was wanting
pub record GetsTaken (p : Settings) (turns : List Turn) (answer : Result Bool RerunError) : Type 0 where
  pub stopped : (place : ℕ) (third : Bool) → Stops p turns refuses_none place third
      → (answer ≡ Err (stop_error place third)) ⊎ (answer ≡ Err OutOfMemory)
  pub taken : (journal : List Entry) → IsJournalOf p turns refuses_none journal
      → (answer ≡ Ok (is_over (past_of p journal))) ⊎ (answer ≡ Err OutOfMemory)
