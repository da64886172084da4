-- What a chain of stores has: the run of each, or the first fault.
use Rattle.std.specs.Prelude.{ℕ, ◌≡◌, ◌⊎◌, ◌+◌, List, [], ◌∷◌, ◌++◌, map, take, slice_get, Option, Some}
use Rattle.std.specs.List.{AllZip}
use Rattle.run_capture.specs.Faults.{RoseExactlyIf}
use Rattle.run_events.specs.Stats.{last_or}
use Rattle.run_rerun_cli.specs.declared.faults.RerunFault.{RerunFault}
use Rattle.run_rerun_cli.specs.declared.faults.RerunFault.TheVariants.{Read}
use Rattle.run_rerun.specs.declared.answers.StoredRun.{StoredRun}
use Rattle.run_rerun_cli.specs.Found.{HasTests, ShowsFault}
use Rattle.run_rerun_cli.specs.RerunFaults.{is_reading_fault}
use Rattle.run_rerun_cli.specs.Shelves.{Shelf}
use Rattle.run_rerun_cli.specs.Visits.{StoreAct, unopened, visits}

-- the stores of these names have these runs, one for one
abbrev pub HaveRuns : (List ℕ → Option (List ℕ)) → List (List ℕ) → List StoredRun → Type 0
HaveRuns bytes names runs = AllZip (λ name run. HasTests (bytes name) run) names runs

-- the plan line of the newest run of a chain, oldest first
abbrev pub newest_line : List StoredRun → List ℕ
newest_line runs = last_or [] (map (λ run. run.line) runs)

-- the stores before this place have runs, and the one at it has this fault, which their count of faults shows
pub record IsFirstFault (names : List (List ℕ)) (s : Shelf) (place : ℕ) (fault : RerunFault) : Type 0 where
  pub name : List ℕ
  pub at : slice_get names place ≡ Some name
  pub runs : List StoredRun
  pub before : HaveRuns s.bytes (take place names) runs
  pub here : ShowsFault (s.bytes name) fault
  pub counted : RoseExactlyIf (is_reading_fault fault) s.faults s.faults_after

-- the stores up to that place were opened one by one, each given back before the next one was, and no later one was;
-- one that couldn't be read may be one that wasn't opened
abbrev pub VisitsTo : List (List ℕ) → (List StoreAct → Type 0) → ℕ → RerunFault → Type 0
VisitsTo names Did place fault =
    Did (visits (take (place + 1) names))
    ⊎ ((fault ≡ Read) × ((name : List ℕ) × (slice_get names place ≡ Some name)
    × Did (visits (take place names) ++ unopened name ∷ [])))
