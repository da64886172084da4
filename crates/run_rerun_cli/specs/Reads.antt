-- What reading a chain of stores answers.
use Rattle.std.specs.Prelude.{ℕ, ◌≡◌, List, [], ◌∷◌, ◌++◌, take, Option, Result, Ok, Err}
use Rattle.run_rerun_cli.specs.declared.chain.ChainError.{ChainError}
use Rattle.run_rerun_cli.specs.declared.chain.ChainError.TheVariants as chains
use Rattle.run_rerun_cli.specs.declared.faults.FoundError.{FoundError}
use Rattle.run_rerun_cli.specs.declared.faults.FoundError.TheVariants as found
use Rattle.run_rerun.specs.declared.answers.StoredRun.{StoredRun}
use Rattle.run_rerun_cli.specs.Chains.{HaveRuns, IsFirstFault, VisitsTo}
use Rattle.run_rerun_cli.specs.Finds.{GivesError}
use Rattle.run_rerun_cli.specs.Found.{HasTests}
use Rattle.run_rerun_cli.specs.Shelves.{Shelf}
use Rattle.run_rerun_cli.specs.Visits.{StoreAct, visits}

-- why there is no chain, where the store at a place has no run
abbrev pub chain_error : ℕ → FoundError → ChainError
chain_error place (found.Fault fault) = chains.Store place fault
chain_error place found.OutOfMemory = chains.OutOfMemory

-- the first of these stores have these runs; each was opened and given back, and none has failed
pub record ReadSoFar (names : List (List ℕ)) (s : Shelf) (Did : List StoreAct → Type 0) (runs : List StoredRun)
    (count : ℕ) : Type 0 where
  pub have : HaveRuns s.bytes (take count names) runs
  pub did : Did (visits (take count names))
  pub calm : s.faults_after ≡ s.faults

-- the run of a store was added, or the store has none
abbrev pub TakesStore : Option (List ℕ) → List StoredRun → List StoredRun → Result (Unit {0}) FoundError → Type 0
TakesStore told before after (Ok done) = (run : StoredRun) × HasTests told run × (after ≡ before ++ run ∷ [])
TakesStore told before after (Err e) = GivesError told e

-- all stores have runs, and these are they; or a store has the first fault; or memory was wanting after some of them
abbrev pub ReadsChain : List (List ℕ) → Shelf → (List StoreAct → Type 0) → Result (List StoredRun) ChainError → Type 0
ReadsChain names s Did (Ok runs) =
    HaveRuns s.bytes names runs × Did (visits names) × (s.faults_after ≡ s.faults)
ReadsChain names s Did (Err (chains.Store place fault)) =
    IsFirstFault names s place fault × VisitsTo names Did place fault
ReadsChain names s Did (Err chains.OutOfMemory) =
    ((count : ℕ) × Did (visits (take count names))) × (s.faults_after ≡ s.faults)
