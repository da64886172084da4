-- What status each cause gives, where the bytes of the stores are told and their count of faults didn't rise.
use Rattle.std.specs.Prelude.{ℕ, ◌≡◌, ◌<◌, ◌+◌, List, [], ◌∷◌, map, take, Bool, true, false, IsSome}
use Rattle.std.specs.List.{All, Contains}
use Rattle.run_capture.specs.Faults.{Rose}
use Rattle.run_events.specs.declared.plan.TestInstanceId.{TestInstanceId}
use Rattle.run_cli.specs.Call.{Writing, HasWriteFault}
use Rattle.run_cli.specs.Cause.{Gets}
use Rattle.run_rerun.specs.Outstanding.{is_outstanding}
use Rattle.run_rerun_cli.specs.declared.faults.RerunFault.{RerunFault}
use Rattle.run_rerun.specs.declared.answers.StoredRun.{StoredRun}
use Rattle.run_rerun_cli.specs.Chains.{HaveRuns, IsFirstFault}
use Rattle.run_rerun_cli.specs.RerunFaults.{is_reading_fault, rerun_fault_status}
use Rattle.run_rerun_cli.specs.Shelves.{Shelf}

-- the statuses that there are
abbrev pub rerun_statuses : List ℕ
rerun_statuses = 0 ∷ 4 ∷ 5 ∷ 6 ∷ 7 ∷ 9 ∷ 10 ∷ 11 ∷ 12 ∷ 14 ∷ 15 ∷ []

-- the stores failed in between
abbrev pub HasShelfFault : Shelf → Type 0
HasShelfFault s = Rose s.faults s.faults_after

-- the bytes of these names are told
abbrev pub AreNamesTold : Shelf → List (List ℕ) → Type 0
AreNamesTold s names = All (λ name. IsSome (s.bytes name)) names

-- all stores of these names have these runs, by bytes that are told, and none of them failed
pub record HasChain (names : List (List ℕ)) (s : Shelf) (runs : List StoredRun) : Type 0 where
  pub told : AreNamesTold s names
  pub calm : ¬ HasShelfFault s
  pub have : HaveRuns s.bytes names runs

-- whether a chain leaves a test outstanding
abbrev pub leaves_test : List StoredRun → TestInstanceId → Bool
leaves_test runs id = is_outstanding (map (λ run. run.tests) runs) id

-- a store that can't be read gets 10, and no other cause does; the first fault gets its status; else, where some test
-- is outstanding, 0, and where none is, 4; but 9 where the sink failed then
pub record GetsRerun (names : List (List ℕ)) (s : Shelf) (w : Writing) (status : ℕ) : Type 0 where
  pub known : Contains rerun_statuses status
  pub unread : s.faults < s.faults_after → Gets status 10
  pub read : status ≡ 10 → HasShelfFault s
  pub broken : ¬ HasShelfFault s → (place : ℕ) (fault : RerunFault) → AreNamesTold s (take (place + 1) names)
      → IsFirstFault names s place fault → Gets status (rerun_fault_status fault)
  pub some : (runs : List StoredRun) → HasChain names s runs → (id : TestInstanceId) → leaves_test runs id ≡ true
      → ¬ HasWriteFault w → Gets status 0
  pub none : (runs : List StoredRun) → HasChain names s runs → ((id : TestInstanceId) → leaves_test runs id ≡ false)
      → ¬ HasWriteFault w → Gets status 4
  pub unwritten : (runs : List StoredRun) → HasChain names s runs → w.faults < w.faults_after → Gets status 9
