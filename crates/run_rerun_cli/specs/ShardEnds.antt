-- What the stores of shards come to, and how the program of reruns answers that.
use Rattle.std.specs.Prelude.{ℕ, ◌≡◌, ◌⊎◌, ◌<◌, ◌+◌, List, [], ◌∷◌, take, Result, Ok, Err}
use Rattle.std.specs.List.{Contains}
use Rattle.run_capture.specs.declared.memory.OutOfMemory.{OutOfMemory}
use Rattle.run_output.specs.Fields.{line_bytes}
use Rattle.run_rerun.specs.declared.answers.ShardsVerdict.{ShardsVerdict}
use Rattle.run_rerun.specs.declared.answers.StoredRun.{StoredRun}
use Rattle.run_rerun.specs.ShardLines.{shards_status, shards_text}
use Rattle.run_rerun.specs.Shards.{SaysShards}
use Rattle.run_cli.specs.Call.{Writing, HasWriteFault}
use Rattle.run_cli.specs.Cause.{Gets}
use Rattle.run_rerun_cli.specs.declared.faults.RerunFault.{RerunFault}
use Rattle.run_rerun_cli.specs.declared.shards.ShardsEnd.{ShardsEnd}
use Rattle.run_rerun_cli.specs.declared.shards.ShardsEnd.TheVariants.{Shards, Faulty}
use Rattle.run_rerun_cli.specs.Chains.{HaveRuns, IsFirstFault, VisitsTo}
use Rattle.run_rerun_cli.specs.LineEnds.{EndsEarly, EndsWith}
use Rattle.run_rerun_cli.specs.RerunCauses.{AreNamesTold, HasChain, HasShelfFault}
use Rattle.run_rerun_cli.specs.RerunFaults.{rerun_fault_status, rerun_fault_text}
use Rattle.run_rerun_cli.specs.Shelves.{Shelf}
use Rattle.run_rerun_cli.specs.Visits.{StoreAct, visits}

-- all stores of these names have runs, of which as shards the verdict is so; each store was opened and given back, one
-- by one, and none has failed
pub record ComeTo (names : List (List ℕ)) (s : Shelf) (Did : List StoreAct → Type 0) (runs : List StoredRun)
    (verdict : ShardsVerdict) : Type 0 where
  pub have : HaveRuns s.bytes names runs
  pub says : SaysShards runs verdict
  pub did : Did (visits names)
  pub calm : s.faults_after ≡ s.faults

-- what is said of runs as shards
abbrev pub SaysEnd : List StoredRun → ShardsEnd → Type 0
SaysEnd runs (Shards verdict) = SaysShards runs verdict
SaysEnd runs (Faulty place fault) = ⊥

-- what the stores of these names come to, and what was done with them
abbrev pub IsShardsEnd : List (List ℕ) → Shelf → (List StoreAct → Type 0) → ShardsEnd → Type 0
IsShardsEnd names s Did (Shards verdict) = (runs : List StoredRun) × ComeTo names s Did runs verdict
IsShardsEnd names s Did (Faulty place fault) = IsFirstFault names s place fault × VisitsTo names Did place fault

-- the same; or memory was wanting after some of them
abbrev pub ShardsComeTo : List (List ℕ) → Shelf → (List StoreAct → Type 0) → Result ShardsEnd OutOfMemory → Type 0
ShardsComeTo names s Did (Ok end) = IsShardsEnd names s Did end
ShardsComeTo names s Did (Err e) = ((count : ℕ) × Did (visits (take count names))) × (s.faults_after ≡ s.faults)

-- the text of that, and its status, where its line was written, and where the sink failed
abbrev pub end_text : ShardsEnd → List ℕ
end_text (Shards verdict) = shards_text verdict
end_text (Faulty place fault) = rerun_fault_text place fault

abbrev pub end_status : ShardsEnd → ℕ
end_status (Shards verdict) = shards_status verdict
end_status (Faulty place fault) = rerun_fault_status fault

abbrev pub end_unwritten : ShardsEnd → ℕ
end_unwritten (Shards verdict) = 9
end_unwritten (Faulty place fault) = rerun_fault_status fault

-- the stores of these names came to that, and its line was written, or the sink failed, or memory was wanting; or
-- memory was wanting before that, after some of the stores were opened and given back, and none has failed
abbrev pub AnswersShards : List (List ℕ) → Shelf → (List StoreAct → Type 0) → Writing → ℕ → Type 0
AnswersShards names s Did w status =
    ((end : ShardsEnd) × IsShardsEnd names s Did end
    × EndsWith w (line_bytes (end_text end)) (end_status end) (end_unwritten end) status)
    ⊎ (EndsEarly w status × ((count : ℕ) × Did (visits (take count names))) × (s.faults_after ≡ s.faults))

-- a store that can't be read gets 10, and no other cause does; the first fault gets its status; else what is said of
-- the shards gets its own, but 9 where the sink failed then
pub record GetsShards (names : List (List ℕ)) (s : Shelf) (w : Writing) (status : ℕ) : Type 0 where
  pub unread : s.faults < s.faults_after → Gets status 10
  pub read : status ≡ 10 → HasShelfFault s
  pub broken : ¬ HasShelfFault s → (place : ℕ) (fault : RerunFault) → AreNamesTold s (take (place + 1) names)
      → IsFirstFault names s place fault → Gets status (rerun_fault_status fault)
  pub said : (runs : List StoredRun) → HasChain names s runs → (verdict : ShardsVerdict) → SaysShards runs verdict
      → ¬ HasWriteFault w → Gets status (shards_status verdict)
  pub unwritten : (runs : List StoredRun) → HasChain names s runs → w.faults < w.faults_after → Gets status 9
