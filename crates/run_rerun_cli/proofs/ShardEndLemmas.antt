-- What the stores of shards come to, and the status of each cause.
use Rattle.std.proofs.Common.{◌≡◌, ℕ, suc, ◌+◌, ◌<◌, ◌⊎◌, inl, inr, List, [], ◌∷◌, take, Option, IsSome, IfOk}
use Rattle.std.proofs.Common.{Result, Ok, Err, if◌then◌else◌, ◌==◌, Bool, true, false, refl, subst, arith}
use Rattle.std.specs.List.{All}
use Rattle.run_capture.specs.Faults.{RoseExactlyIf}
use Rattle.run_capture.specs.declared.memory.OutOfMemory.{OutOfMemory}
use Rattle.run_output.specs.Fields.{line_bytes}
use Rattle.run_rerun.specs.declared.answers.ShardsVerdict.{ShardsVerdict}
use Rattle.run_rerun.specs.declared.answers.ShardsVerdict.TheVariants as verdicts
use Rattle.run_rerun.specs.declared.answers.StoredRun.{StoredRun}
use Rattle.run_rerun.specs.ShardLines.{shards_status}
use Rattle.run_rerun.specs.Shards.{SaysShards}
use Rattle.run_rerun.proofs.OneVerdictLemmas.{one_status}
use Rattle.run_cli.specs.Call.{Writing, HasWriteFault}
use Rattle.run_cli.specs.Cause.{Gets}
use Rattle.run_rerun_cli.specs.declared.faults.RerunFault.{RerunFault}
use Rattle.run_rerun_cli.specs.declared.faults.RerunFault.TheVariants as faults
use Rattle.run_rerun_cli.specs.declared.shards.ShardsEnd.{ShardsEnd}
use Rattle.run_rerun_cli.specs.declared.shards.ShardsEnd.TheVariants.{Shards, Faulty}
use Rattle.run_rerun_cli.specs.Chains.{HaveRuns, IsFirstFault}
use Rattle.run_rerun_cli.specs.LineEnds.{EndsWith}
use Rattle.run_rerun_cli.specs.Reads.{ReadsChain}
use Rattle.run_rerun_cli.specs.RerunCauses.{AreNamesTold, HasChain, HasShelfFault}
use Rattle.run_rerun_cli.specs.RerunFaults.{is_reading_fault, rerun_fault_status}
use Rattle.run_rerun_cli.specs.ShardEnds.{AnswersShards, GetsShards, SaysEnd, ShardsComeTo, end_text}
use Rattle.run_rerun_cli.specs.Shelves.{Shelf}
use Rattle.run_rerun_cli.specs.Visits.{StoreAct}
use Rattle.run_rerun_cli.proofs.CauseLemmas.{calm_gets, chain_or_fault, either_ten, line_is, none_at, rose_gets}
use Rattle.run_rerun_cli.proofs.CauseLemmas.{same_fault, same_gets, told_as}
use Rattle.run_rerun_cli.proofs.OneLemmas.{one_stored}
use Rattle.run_rerun_cli.proofs.VerdictLemmas.{comes_to}

-- what is said of the runs is what the stores come to; or memory was wanting for it
pub ends_so : (names : List (List ℕ)) (s : Shelf) (Did : List StoreAct → Type 0) (runs : List StoredRun)
    (answer : Result ShardsEnd OutOfMemory) → ReadsChain names s Did (Ok runs) → IfOk answer (SaysEnd runs)
    → ShardsComeTo names s Did answer
ends_so names s Did runs (Ok (Shards verdict)) (have, did, calm) says =
    (runs, record { have = have; says = says; did = did; calm = calm })
ends_so names s Did runs (Ok (Faulty place fault)) reads says = absurd says
ends_so names s Did runs (Err e) reads says = comes_to names s Did runs (Err e) reads tt

-- stores that are told have one list of runs
same_runs : (bytes : List ℕ → Option (List ℕ)) (names : List (List ℕ)) (runs others : List StoredRun)
    → All (λ name. IsSome (bytes name)) names → HaveRuns bytes names runs → HaveRuns bytes names others → others ≡ runs
same_runs bytes [] [] [] told have also = refl
same_runs bytes [] [] (o ∷ os) told have also = absurd also
same_runs bytes [] (r ∷ rs) others told have also = absurd have
same_runs bytes (name ∷ names) [] others told have also = absurd have
same_runs bytes (name ∷ names) (r ∷ rs) [] told have also = absurd also
same_runs bytes (name ∷ names) (r ∷ rs) (o ∷ os) told have also =
    let there = told_as (bytes name) (told 0 name (omega arith)) in
    let one = one_stored (bytes name) there.0 r o there.1 have.0 also.0 in
    let more = same_runs bytes names rs os (λ k d below. told (suc k) d (omega arith)) have.1 also.1 in
    cc

-- the status of shards is none of a fault
small : (verdict : ShardsVerdict) → shards_status verdict ≡ 10 → ⊥
small (verdicts.Whole tests passed) is =
    by (tests == 0) (passed == tests) (shards_status (verdicts.Whole tests passed)) refl is
  where
    by : (a b : Bool) (n : ℕ) → n ≡ (if a then 4 else if b then 0 else 100) → n ≡ 10 → ⊥
    by true b n so is = omega (arith, so, is)
    by false true n so is = omega (arith, so, is)
    by false false n so is = omega (arith, so, is)
small (verdicts.Cut place) is = omega arith
small (verdicts.Other place) is = omega arith
small (verdicts.Twice id) is = omega arith
small (verdicts.Missing id) is = omega arith

neither : (verdict : ShardsVerdict) → (shards_status verdict ≡ 10) ⊎ (◌≡◌ {A = ℕ} 9 10) → ⊥
neither verdict (inl is) = small verdict is
neither verdict (inr is) = omega arith

unread_gets : (names : List (List ℕ)) (s : Shelf) (Did : List StoreAct → Type 0) (w : Writing) (status : ℕ)
    → AnswersShards names s Did w status → s.faults < s.faults_after → Gets status 10
unread_gets names s Did w status (inl (Shards verdict, (runs, come), ends)) lt =
    let calm = come.calm in absurd (omega arith)
unread_gets names s Did w status (inl (Faulty place fault, (first, visits), ends)) lt =
    by_fault fault first.counted ends
  where
    by_fault : (fault : RerunFault) → RoseExactlyIf (is_reading_fault fault) s.faults s.faults_after
        → EndsWith w (line_bytes (end_text (Faulty place fault))) (rerun_fault_status fault)
        (rerun_fault_status fault) status → Gets status 10
    by_fault faults.Read rose ends = same_gets w _ 10 status ends
    by_fault faults.TooLong rose ends = absurd (omega arith)
    by_fault faults.Torn rose ends = absurd (omega arith)
    by_fault (faults.Bad n) rose ends = absurd (omega arith)
    by_fault (faults.Plan f) rose ends = absurd (omega arith)
    by_fault (faults.NotEnabled n) rose ends = absurd (omega arith)
    by_fault (faults.ThirdSignal n) rose ends = absurd (omega arith)
unread_gets names s Did w status (inr (early, done, calm)) lt = absurd (omega arith)

read_rose : (names : List (List ℕ)) (s : Shelf) (Did : List StoreAct → Type 0) (w : Writing) (status : ℕ)
    → AnswersShards names s Did w status → status ≡ 10 → HasShelfFault s
read_rose names s Did w status (inl (Shards verdict, v, ends)) ten =
    absurd (neither verdict (line_is w (line_bytes (end_text (Shards verdict))) (shards_status verdict) 9 status ends
    ten))
read_rose names s Did w status (inl (Faulty place fault, (first, visits), ends)) ten =
    by_fault fault first.counted (either_ten (rerun_fault_status fault)
    (line_is w (line_bytes (end_text (Faulty place fault))) (rerun_fault_status fault) (rerun_fault_status fault)
    status ends ten))
  where
    by_fault : (fault : RerunFault) → RoseExactlyIf (is_reading_fault fault) s.faults s.faults_after
        → rerun_fault_status fault ≡ 10 → HasShelfFault s
    by_fault faults.Read rose is = rose.1
    by_fault faults.TooLong rose is = absurd (omega arith)
    by_fault faults.Torn rose is = absurd (omega arith)
    by_fault (faults.Bad n) rose is = absurd (omega arith)
    by_fault (faults.Plan f) rose is = absurd (omega arith)
    by_fault (faults.NotEnabled n) rose is = absurd (omega arith)
    by_fault (faults.ThirdSignal n) rose is = absurd (omega arith)
read_rose names s Did w status (inr (early, done, quiet)) ten = let is = early.0 in absurd (omega arith)

broken_gets : (names : List (List ℕ)) (s : Shelf) (Did : List StoreAct → Type 0) (w : Writing) (status : ℕ)
    → AnswersShards names s Did w status → ¬ HasShelfFault s → (place : ℕ) (fault : RerunFault)
    → AreNamesTold s (take (place + 1) names) → IsFirstFault names s place fault
    → Gets status (rerun_fault_status fault)
broken_gets names s Did w status (inl (Shards verdict, (runs, come), ends)) calm place fault told first =
    absurd (none_at names s runs calm place fault told first come.have)
broken_gets names s Did w status (inl (Faulty other last, (found, visits), ends)) calm place fault told first =
    subst (Gets status) (same_fault names s place other fault last calm told first found)
    (same_gets w (line_bytes (end_text (Faulty other last))) (rerun_fault_status last) status ends)
broken_gets names s Did w status (inr (early, done, calm)) quiet place fault told first = inr early.0

said_gets : (names : List (List ℕ)) (s : Shelf) (Did : List StoreAct → Type 0) (w : Writing) (status : ℕ)
    → AnswersShards names s Did w status → (runs : List StoredRun) → HasChain names s runs → (verdict : ShardsVerdict)
    → SaysShards runs verdict → ¬ HasWriteFault w → Gets status (shards_status verdict)
said_gets names s Did w status (inl (Shards other, (others, come), ends)) runs chain verdict says calm =
    let same = same_runs s.bytes names runs others chain.told chain.have come.have in
    subst (Gets status)
    (one_status runs other verdict (subst (λ runs. SaysShards runs other) same come.says) says)
    (calm_gets w (line_bytes (end_text (Shards other))) (shards_status other) 9 status ends calm)
said_gets names s Did w status (inl (Faulty place fault, (first, visits), ends)) runs chain verdict says calm =
    absurd (chain_or_fault names s runs place fault chain first)
said_gets names s Did w status (inr (early, done, quiet)) runs chain verdict says calm = inr early.0

unwritten_gets : (names : List (List ℕ)) (s : Shelf) (Did : List StoreAct → Type 0) (w : Writing) (status : ℕ)
    → AnswersShards names s Did w status → (runs : List StoredRun) → HasChain names s runs
    → w.faults < w.faults_after → Gets status 9
unwritten_gets names s Did w status (inl (Shards verdict, v, ends)) runs chain lt =
    rose_gets w (line_bytes (end_text (Shards verdict))) (shards_status verdict) 9 status ends lt
unwritten_gets names s Did w status (inl (Faulty place fault, (first, visits), ends)) runs chain lt =
    absurd (chain_or_fault names s runs place fault chain first)
unwritten_gets names s Did w status (inr (early, done, quiet)) runs chain lt = inr early.0

-- each cause gives its status
pub shards_gets : (names : List (List ℕ)) (s : Shelf) (Did : List StoreAct → Type 0) (w : Writing) (status : ℕ)
    → AnswersShards names s Did w status → GetsShards names s w status
shards_gets names s Did w status h = record {
  unread = unread_gets names s Did w status h;
  read = read_rose names s Did w status h;
  broken = broken_gets names s Did w status h;
  said = said_gets names s Did w status h;
  unwritten = unwritten_gets names s Did w status h;
}
