-- What a chain comes to.
use Rattle.std.proofs.Common.{◌≡◌, ℕ, ◌<◌, List, [], length, map, take, IsSome, IfOk, Result, Ok, Err}
use Rattle.std.proofs.Common.{sym, subst, le_refl}
use Rattle.std.proofs.lemmas.List.{take_all}
use Rattle.run_capture.specs.declared.memory.OutOfMemory.{OutOfMemory}
use Rattle.run_events.specs.declared.plan.TestInstanceId.{TestInstanceId}
use Rattle.run_input.specs.Input.{plan_line_of}
use Rattle.run_rerun.specs.Outstanding.{AreOutstanding}
use Rattle.run_rerun.specs.declared.answers.StoredRun.{StoredRun}
use Rattle.run_rerun_cli.specs.declared.verdicts.Verdict.{Verdict}
use Rattle.run_rerun_cli.specs.declared.verdicts.Verdict.TheVariants.{Rerun, NothingLeft, Faulty}
use Rattle.run_rerun_cli.specs.Chains.{newest_line}
use Rattle.run_rerun_cli.specs.Comes.{ChainComesTo, LeavesTo}
use Rattle.run_rerun_cli.specs.Reads.{ReadsChain}
use Rattle.run_rerun_cli.specs.Shelves.{Shelf}
use Rattle.run_rerun_cli.specs.Verdicts.{IsRerunLine, IsVerdict}
use Rattle.run_rerun_cli.specs.Visits.{StoreAct, visits}
use Rattle.run_rerun_cli.proofs.ChainLemmas.{newest_says}

-- the newest plan line of a chain says a plan
pub chain_says : (names : List (List ℕ)) (s : Shelf) (Did : List StoreAct → Type 0) (runs : List StoredRun)
    → ReadsChain names s Did (Ok runs) → 0 < length names → IsSome (plan_line_of (newest_line runs))
chain_says names s Did runs (have, did, calm) some = newest_says s.bytes names runs have some

-- what its runs come to is a verdict on the stores
pub chain_verdict : (names : List (List ℕ)) (s : Shelf) (Did : List StoreAct → Type 0) (runs : List StoredRun)
    (verdict : Verdict) → ReadsChain names s Did (Ok runs) → LeavesTo runs verdict → IsVerdict names s Did verdict
chain_verdict names s Did runs (Rerun text) (have, did, calm) (ids, left, (some, line)) =
    (runs, ids, record { have = have; left = left; did = did; calm = calm }, some, line)
chain_verdict names s Did runs NothingLeft (have, did, calm) (ids, left, none) = (
  runs,
  record {
    have = have;
    left = subst (AreOutstanding (map (λ run. run.tests) runs)) none left;
    did = did;
    calm = calm;
  },
)
chain_verdict names s Did runs (Faulty place fault) reads (ids, left, none) = absurd none

-- or memory was wanting for it, after all stores were visited
pub comes_to : (names : List (List ℕ)) (s : Shelf) (Did : List StoreAct → Type 0) (runs : List StoredRun)
    (answer : Result Verdict OutOfMemory) → ReadsChain names s Did (Ok runs) → IfOk answer (LeavesTo runs)
    → ChainComesTo names s Did answer
comes_to names s Did runs (Ok verdict) reads leaves = chain_verdict names s Did runs verdict reads leaves
comes_to names s Did runs (Err e) (have, did, calm) leaves =
    ((length names, subst (λ ns. Did (visits ns)) (sym (take-whole names)) did), calm)
  where
    take-whole : (xs : List (List ℕ)) → take (length xs) xs ≡ xs
    take-whole xs = take_all (length xs) xs (le_refl (length xs))
