-- What a chain comes to, unless memory is wanting.
use Rattle.std.specs.Prelude.{ℕ, ◌≡◌, List, [], map, take, Result, Ok, Err}
use Rattle.run_capture.specs.declared.memory.OutOfMemory.{OutOfMemory}
use Rattle.run_events.specs.declared.plan.TestInstanceId.{TestInstanceId}
use Rattle.run_rerun.specs.Outstanding.{AreOutstanding}
use Rattle.run_rerun.specs.declared.answers.StoredRun.{StoredRun}
use Rattle.run_rerun_cli.specs.declared.verdicts.Verdict.{Verdict}
use Rattle.run_rerun_cli.specs.declared.verdicts.Verdict.TheVariants.{Rerun, NothingLeft, Faulty}
use Rattle.run_rerun_cli.specs.Chains.{newest_line}
use Rattle.run_rerun_cli.specs.Shelves.{Shelf}
use Rattle.run_rerun_cli.specs.Verdicts.{IsRerunLine, IsVerdict}
use Rattle.run_rerun_cli.specs.Visits.{StoreAct, visits}

-- these tests are outstanding, and the newest plan line is this: the plan line of a rerun, or there is none
abbrev pub LeavesSome : List ℕ → List TestInstanceId → Verdict → Type 0
LeavesSome line ids (Rerun text) = (ids ≡ [] → ⊥) × IsRerunLine line ids text
LeavesSome line ids NothingLeft = ids ≡ []
LeavesSome line ids (Faulty place fault) = ⊥

-- runs leave some tests outstanding, and come to that
abbrev pub LeavesTo : List StoredRun → Verdict → Type 0
LeavesTo runs verdict = (ids : List TestInstanceId) × AreOutstanding (map (λ run. run.tests) runs) ids
    × LeavesSome (newest_line runs) ids verdict

-- the stores of these names come to a verdict; or memory was wanting after some of them
abbrev pub ChainComesTo : List (List ℕ) → Shelf → (List StoreAct → Type 0) → Result Verdict OutOfMemory → Type 0
ChainComesTo names s Did (Ok verdict) = IsVerdict names s Did verdict
ChainComesTo names s Did (Err e) = ((count : ℕ) × Did (visits (take count names))) × (s.faults_after ≡ s.faults)
