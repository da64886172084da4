-- What looking for the run of one store answers.
use Rattle.std.specs.Prelude.{ℕ, ◌≡◌, ◌⊎◌, List, [], ◌∷◌, ⊤, Bool, true, false, Option, Some, Result, Ok, Err}
use Rattle.std.specs.Prelude.{if◌then◌else◌}
use Rattle.run_engine.specs.declared.errors.TestRunnerBuildError.{TestRunnerBuildError}
use Rattle.run_engine.specs.declared.errors.TestRunnerBuildError.TheVariants as build
use Rattle.run_events.specs.declared.plan.Plan.{Plan}
use Rattle.run_input.specs.declared.plan_line.RunnerKeys.{RunnerKeys}
use Rattle.run_output.specs.declared.fault.PlanFault.TheVariants as plans
use Rattle.run_store.specs.Stores.{whole, torn}
use Rattle.run_store_io.specs.declared.error.StoreError.{StoreError}
use Rattle.run_store_io.specs.declared.error.StoreError.TheVariants as errors
use Rattle.run_store_io.specs.declared.stored.Stored.{Stored}
use Rattle.run_cli.specs.Plans.{IsPlanFault}
use Rattle.run_rerun.specs.declared.answers.RunTests.{RunTests}
use Rattle.run_rerun_cli.specs.declared.faults.RerunFault.{RerunFault}
use Rattle.run_rerun_cli.specs.declared.faults.RerunFault.TheVariants as faults
use Rattle.run_rerun_cli.specs.declared.faults.FoundError.{FoundError}
use Rattle.run_rerun_cli.specs.declared.faults.FoundError.TheVariants as found
use Rattle.run_rerun.specs.declared.answers.StoredRun.{StoredRun}
use Rattle.run_rerun_cli.specs.Found.{HasTests, IsStoreOf, ShowsFault}
use Rattle.run_rerun_cli.specs.RerunFaults.{is_reading_fault}
use Rattle.run_rerun_cli.specs.Visits.{StoreAct, given_back, opened, unopened}

-- an error of reading a store, as it is here
abbrev pub found_error : StoreError → FoundError
found_error errors.Read = found.Fault faults.Read
found_error errors.TooLong = found.Fault faults.TooLong
found_error errors.NoPlan = found.Fault faults.Torn
found_error (errors.Bad place) = found.Fault (faults.Bad place)
found_error errors.Write = found.OutOfMemory
found_error errors.Closed = found.OutOfMemory
found_error errors.OutOfMemory = found.OutOfMemory

-- an error of a runner, as it is here
abbrev pub refusal_error : TestRunnerBuildError → FoundError
refusal_error (build.ZeroLimit group) = found.Fault (faults.Plan (plans.ZeroLimit group))
refusal_error (build.DuplicateTest test) = found.Fault (faults.Plan (plans.DuplicateTest test))
refusal_error (build.UnknownGroup test) = found.Fault (faults.Plan (plans.UnknownGroup test))
refusal_error (build.ZeroWeight test) = found.Fault (faults.Plan (plans.ZeroWeight test))
refusal_error (build.TooManyRetries test) = found.Fault (faults.Plan (plans.TooManyRetries test))
refusal_error build.OutOfMemory = found.OutOfMemory

-- whether an error, or an answer, is that a store could not be read
abbrev pub is_reading_error : FoundError → Bool
is_reading_error (found.Fault fault) = is_reading_fault fault
is_reading_error found.OutOfMemory = false

abbrev pub fails_to_read : {T : Type 0} → Result T FoundError → Bool
fails_to_read (Ok run) = false
fails_to_read (Err e) = is_reading_error e

-- a store has what was read
abbrev pub HasStored : Option (List ℕ) → Stored → Type 0
HasStored told s = IsStoreOf told (if s.whole then whole s.plan s.turns else torn s.plan s.turns)

-- what each answer says of a store; want of memory says nothing
abbrev pub GivesError : Option (List ℕ) → FoundError → Type 0
GivesError told (found.Fault fault) = ShowsFault told fault
GivesError told found.OutOfMemory = ⊤

abbrev pub GivesStored : Option (List ℕ) → Result Stored FoundError → Type 0
GivesStored told (Ok s) = HasStored told s
GivesStored told (Err e) = GivesError told e

abbrev pub GivesTests : Option (List ℕ) → List ℕ → Bool → Result RunTests FoundError → Type 0
GivesTests told line ended (Ok tests) = HasTests told (record { line = line; tests = tests; whole = ended })
GivesTests told line ended (Err e) = GivesError told e

abbrev pub GivesRun : Option (List ℕ) → Result StoredRun FoundError → Type 0
GivesRun told (Ok run) = HasTests told run
GivesRun told (Err e) = GivesError told e

-- an error says why a plan is refused, or that memory was wanting
abbrev pub IsFoundRefusal : RunnerKeys → Plan → FoundError → Type 0
IsFoundRefusal keys plan (found.Fault (faults.Plan fault)) = IsPlanFault keys plan fault
IsFoundRefusal keys plan (found.Fault _) = ⊥
IsFoundRefusal keys plan found.OutOfMemory = ⊤

-- the store of this name was opened and given back; or it couldn't be opened, which is a fault
abbrev pub VisitsOne : {T : Type 0} → List ℕ → (List StoreAct → Type 0) → Result T FoundError → Type 0
VisitsOne name Did answer =
    Did (opened name ∷ given_back ∷ [])
    ⊎ ((answer ≡ Err (found.Fault faults.Read)) × Did (unopened name ∷ []))
