-- Each cause gives its status.
use Rattle.std.proofs.Common.{◌≡◌, ◌∙◌, ℕ, zero, suc, ◌+◌, ◌<◌, ◌≤◌, ◌⊎◌, inl, inr, ◌||◌, ◌&&◌, List, [], ◌∷◌}
use Rattle.std.proofs.Common.{length, map, take, get_or, Option, Some, None, IsSome, Bool, true, false, nat_eq, nat_lt}
use Rattle.std.proofs.Common.{slice_index_or}
use Rattle.std.proofs.Common.{refl, sym, ap, subst, arith, length-take, eq-eqb}
use Rattle.std.specs.List.{All, AllZip, Contains, slice_get}
use Rattle.std.proofs.lemmas.List.{get_or-take}
use Rattle.std.proofs.lemmas.Option.{get_or_from_slice_get, slice_get_within}
use Rattle.std.proofs.lemmas.Bool.Decides.{nat_tests}
use lib.Pointwise.{pointwise}
use Rattle.run_capture.specs.Faults.{Rose, RoseExactlyIf}
use Rattle.run_events.specs.declared.plan.TestInstanceId.{TestInstanceId}
use Rattle.run_model.specs.Reruns.{is_one_test}
use Rattle.run_output.specs.Fields.{line_bytes}
use Rattle.run_rerun.specs.declared.answers.RunTests.{RunTests}
use Rattle.run_rerun.specs.Outstanding.{AreOutstanding, has_id, is_outstanding}
use Rattle.run_cli.specs.Call.{Writing, HasWriteFault}
use Rattle.run_cli.specs.Cause.{Gets}
use Rattle.run_rerun_cli.specs.declared.faults.RerunFault.{RerunFault}
use Rattle.run_rerun_cli.specs.declared.faults.RerunFault.TheVariants as faults
use Rattle.run_rerun.specs.declared.answers.StoredRun.{StoredRun}
use Rattle.run_rerun_cli.specs.declared.verdicts.Verdict.{Verdict}
use Rattle.run_rerun_cli.specs.declared.verdicts.Verdict.TheVariants.{Rerun, NothingLeft, Faulty}
use Rattle.run_rerun_cli.specs.Chains.{HaveRuns, IsFirstFault}
use Rattle.run_rerun_cli.specs.Found.{HasTests, ShowsFault}
use Rattle.run_rerun_cli.specs.LineEnds.{EndsEarly, EndsWith}
use Rattle.run_rerun_cli.specs.RerunCauses.{AreNamesTold, GetsRerun, HasChain, HasShelfFault, leaves_test}
use Rattle.run_rerun_cli.specs.RerunCauses.{rerun_statuses}
use Rattle.run_rerun_cli.specs.RerunFaults.{is_reading_fault, rerun_fault_status}
use Rattle.run_rerun_cli.specs.Shelves.{Shelf}
use Rattle.run_rerun_cli.specs.Verdicts.{AnswersRerun, IsVerdict, LeavesTests, unwritten_status, verdict_status}
use Rattle.run_rerun_cli.specs.Verdicts.{verdict_text}
use Rattle.run_rerun_cli.specs.Visits.{StoreAct}
use Rattle.run_rerun_cli.proofs.OneLemmas.{comes_once, fault_comes, one_tests, run_or_fault}

-- what holds of the first names holds of each of them
first_has : (P : List ℕ → Type 0) (names : List (List ℕ)) (n k : ℕ) (name : List ℕ) → All P (take n names) → k < n
    → slice_get names k ≡ Some name → P name
first_has P names n k name all below at =
    let within = slice_get_within names k name at in
    let there : get_or (take n names) k name ≡ name =
    get_or-take n names k name below ∙ get_or_from_slice_get names k name name at in
    subst P there (all k name (omega (arith, length-take n names)))

-- the bytes of a name that is told
pub told_as : (o : Option (List ℕ)) → IsSome o → (bytes : List ℕ) × (o ≡ Some bytes)
told_as (Some bytes) some = (bytes, refl)
told_as None some = cc

-- the first stores that have runs have one each
run_at : (bytes : List ℕ → Option (List ℕ)) (names : List (List ℕ)) (n k : ℕ) (name : List ℕ) (runs : List StoredRun)
    → HaveRuns bytes (take n names) runs → k < n → slice_get names k ≡ Some name
    → (run : StoredRun) × HasTests (bytes name) run
run_at bytes [] n k name runs have below at = cc
run_at bytes (x ∷ xs) zero k name runs have below at = absurd (omega arith)
run_at bytes (x ∷ xs) (suc n) k name [] have below at = absurd have
run_at bytes (x ∷ xs) (suc n) zero name (run ∷ runs) have below at =
    (run, subst (λ y. HasTests (bytes y) run) (the_one at) have.0)
  where
    the_one : Some x ≡ Some name → x ≡ name
    the_one is = cc
run_at bytes (x ∷ xs) (suc n) (suc k) name (run ∷ runs) have below at =
    run_at bytes xs n k name runs have.1 (omega arith) at

-- all of them
run_in : (bytes : List ℕ → Option (List ℕ)) (names : List (List ℕ)) (k : ℕ) (name : List ℕ) (runs : List StoredRun)
    → HaveRuns bytes names runs → slice_get names k ≡ Some name → (run : StoredRun) × HasTests (bytes name) run
run_in bytes [] k name runs have at = cc
run_in bytes (x ∷ xs) k name [] have at = absurd have
run_in bytes (x ∷ xs) zero name (run ∷ runs) have at = (run, subst (λ y. HasTests (bytes y) run) (the_one at) have.0)
  where
    the_one : Some x ≡ Some name → x ≡ name
    the_one is = cc
run_in bytes (x ∷ xs) (suc k) name (run ∷ runs) have at = run_in bytes xs k name runs have.1 at

-- where the stores didn't fail, the first fault isn't that one could not be read
calm_quiet : (b : Bool) (before after : ℕ) → RoseExactlyIf b before after → ¬ Rose before after → b ≡ false
calm_quiet true before after rose calm = absurd (calm rose.1)
calm_quiet false before after rose calm = refl

-- so a chain of runs has no fault
pub chain_or_fault : (names : List (List ℕ)) (s : Shelf) (runs : List StoredRun) (place : ℕ) (fault : RerunFault)
    → HasChain names s runs → IsFirstFault names s place fault → ⊥
chain_or_fault names s runs place fault chain first =
    let quiet = calm_quiet (is_reading_fault fault) s.faults s.faults_after first.counted chain.calm in
    let within = slice_get_within names place first.name first.at in
    let there = get_or_from_slice_get names place first.name first.name first.at in
    let told = subst (λ name. IsSome (s.bytes name)) there (chain.told place first.name within) in
    let bytes = told_as (s.bytes first.name) told in
    let run = run_in s.bytes names place first.name runs chain.have first.at in
    run_or_fault (s.bytes first.name) bytes.0 run.0 fault bytes.1 run.1 quiet first.here

-- a chain that is told has one list of tests
same_tests : (bytes : List ℕ → Option (List ℕ)) (names : List (List ℕ)) (runs others : List StoredRun)
    → All (λ name. IsSome (bytes name)) names → HaveRuns bytes names runs → HaveRuns bytes names others
    → map (λ run. run.tests) others ≡ map (λ run. run.tests) runs
same_tests bytes [] [] [] told have also = refl
same_tests bytes [] [] (o ∷ os) told have also = absurd also
same_tests bytes [] (r ∷ rs) others told have also = absurd have
same_tests bytes (name ∷ names) [] others told have also = absurd have
same_tests bytes (name ∷ names) (r ∷ rs) [] told have also = absurd also
same_tests bytes (name ∷ names) (r ∷ rs) (o ∷ os) told have also =
    let there = told_as (bytes name) (told 0 name (omega arith)) in
    let one = one_tests (bytes name) there.0 r o there.1 have.0 also.0 in
    let more = same_tests bytes names rs os (λ k d below. told (suc k) d (omega arith)) have.1 also.1 in
    cc

-- the first fault is one
pub same_fault : (names : List (List ℕ)) (s : Shelf) (place other : ℕ) (fault last : RerunFault) → ¬ HasShelfFault s
    → AreNamesTold s (take (place + 1) names) → IsFirstFault names s place fault → IsFirstFault names s other last
    → rerun_fault_status last ≡ rerun_fault_status fault
same_fault names s place other fault last calm told one two =
    by_order (nat_lt place other) (nat_lt other place) refl refl
  where
    quiet : is_reading_fault fault ≡ false
    quiet = calm_quiet (is_reading_fault fault) s.faults s.faults_after one.counted calm

    still : is_reading_fault last ≡ false
    still = calm_quiet (is_reading_fault last) s.faults s.faults_after two.counted calm

    bytes_at : (k : ℕ) (name : List ℕ) → k ≤ place → slice_get names k ≡ Some name
        → (bytes : List ℕ) × (s.bytes name ≡ Some bytes)
    bytes_at k name within at =
        told_as (s.bytes name)
        (first_has (λ name. IsSome (s.bytes name)) names (place + 1) k name told (omega arith) at)

    by_order : (a b : Bool) → nat_lt place other ≡ a → nat_lt other place ≡ b
        → rerun_fault_status last ≡ rerun_fault_status fault
    by_order true b before after =
        let below : place < other = grind (arith, nat_tests, before) in
        let run = run_at s.bytes names other place one.name two.runs two.before below one.at in
        let bytes = bytes_at place one.name (omega arith) one.at in
        absurd (run_or_fault (s.bytes one.name) bytes.0 run.0 fault bytes.1 run.1 quiet one.here)
    by_order false true before after =
        let below : other < place = grind (arith, nat_tests, after) in
        let run = run_at s.bytes names place other two.name one.runs one.before below two.at in
        let bytes = bytes_at other two.name (omega arith) two.at in
        absurd (run_or_fault (s.bytes two.name) bytes.0 run.0 last bytes.1 run.1 still two.here)
    by_order false false before after =
        let same : other ≡ place = grind (arith, nat_tests, before, after) in
        let at = subst (λ n. slice_get names n ≡ Some two.name) same two.at in
        let named : Some two.name ≡ Some one.name = sym at ∙ one.at in
        let name : two.name ≡ one.name = cc in
        let bytes = bytes_at place one.name (omega arith) one.at in
        let here = subst (λ name. ShowsFault (s.bytes name) last) name two.here in
        comes_once (s.bytes one.name) bytes.0 (rerun_fault_status last) (rerun_fault_status fault) bytes.1
        (fault_comes (s.bytes one.name) last still here) (fault_comes (s.bytes one.name) fault quiet one.here)

-- ---- the statuses of a line

pub calm_gets : (w : Writing) (text : List ℕ) (written failed status : ℕ) → EndsWith w text written failed status
    → ¬ HasWriteFault w → Gets status written
calm_gets w text written failed status (inl (is, took, same)) calm = inl is
calm_gets w text written failed status (inr (inl (is, took, le, rose))) calm = absurd (calm rose)
calm_gets w text written failed status (inr (inr (is, short))) calm = inr is

pub rose_gets : (w : Writing) (text : List ℕ) (written failed status : ℕ) → EndsWith w text written failed status
    → w.faults < w.faults_after → Gets status failed
rose_gets w text written failed status (inl (is, took, same)) lt = absurd (omega arith)
rose_gets w text written failed status (inr (inl (is, took, le, rose))) lt = inl is
rose_gets w text written failed status (inr (inr (is, short))) lt = inr is

pub same_gets : (w : Writing) (text : List ℕ) (expected status : ℕ) → EndsWith w text expected expected status
    → Gets status expected
same_gets w text expected status (inl (is, took, same)) = inl is
same_gets w text expected status (inr (inl (is, took, le, rose))) = inl is
same_gets w text expected status (inr (inr (is, short))) = inr is

-- ---- what is outstanding

-- a test is itself
pointwise_self : (bytes : List ℕ) → pointwise nat_eq bytes bytes ≡ true
pointwise_self [] = refl
pointwise_self (b ∷ bytes) =
    ap (λ x. x && pointwise nat_eq bytes bytes) (eq-eqb b b refl) ∙ pointwise_self bytes

is_itself : (id : TestInstanceId) → is_one_test id id ≡ true
is_itself id =
    ap (λ x. x && pointwise nat_eq id.name id.name) (pointwise_self id.binary) ∙ pointwise_self id.name

-- some tests are outstanding where there is one
one_left : (chain : List RunTests) (ids : List TestInstanceId) → AreOutstanding chain ids → (ids ≡ [] → ⊥)
    → ((id : TestInstanceId) → is_outstanding chain id ≡ false) → ⊥
one_left chain [] h some none = some refl
one_left chain (id ∷ ids) h some none =
    let has : has_id (id ∷ ids) id ≡ true = ap (λ x. x || has_id ids id) (is_itself id) in
    let is : true ≡ false = sym has ∙ h.exactly id ∙ none id in cc

-- and none where the list is empty
none_left : (chain : List RunTests) (id : TestInstanceId) → AreOutstanding chain [] → is_outstanding chain id ≡ true → ⊥
none_left chain id h is = let both : false ≡ true = h.exactly id ∙ is in cc

-- ---- the causes

-- the store that could not be read
unread_gets : (names : List (List ℕ)) (s : Shelf) (Did : List StoreAct → Type 0) (w : Writing) (status : ℕ)
    → AnswersRerun names s Did w status → s.faults < s.faults_after → Gets status 10
unread_gets names s Did w status (inl (Rerun text, (runs, ids, left, some, line), ends)) lt =
    let calm = left.calm in absurd (omega arith)
unread_gets names s Did w status (inl (NothingLeft, (runs, left), ends)) lt =
    let calm = left.calm in absurd (omega arith)
unread_gets names s Did w status (inl (Faulty place fault, (first, visits), ends)) lt =
    by_fault fault first.counted ends
  where
    by_fault : (fault : RerunFault) → RoseExactlyIf (is_reading_fault fault) s.faults s.faults_after
        → EndsWith w (line_bytes (verdict_text (Faulty place fault))) (rerun_fault_status fault)
        (rerun_fault_status fault) status → Gets status 10
    by_fault faults.Read rose ends = same_gets w _ 10 status ends
    by_fault faults.TooLong rose ends = absurd (omega arith)
    by_fault faults.Torn rose ends = absurd (omega arith)
    by_fault (faults.Bad n) rose ends = absurd (omega arith)
    by_fault (faults.Plan f) rose ends = absurd (omega arith)
    by_fault (faults.NotEnabled n) rose ends = absurd (omega arith)
    by_fault (faults.ThirdSignal n) rose ends = absurd (omega arith)
unread_gets names s Did w status (inr (early, done, calm)) lt = absurd (omega arith)

-- where a store has the first fault, not all have runs
pub none_at : (names : List (List ℕ)) (s : Shelf) (runs : List StoredRun) → ¬ HasShelfFault s → (place : ℕ)
    (fault : RerunFault) → AreNamesTold s (take (place + 1) names) → IsFirstFault names s place fault
    → HaveRuns s.bytes names runs → ⊥
none_at names s runs calm place fault told first have =
    let quiet = calm_quiet (is_reading_fault fault) s.faults s.faults_after first.counted calm in
    let below : place < place + 1 = omega arith in
    let some = first_has (λ name. IsSome (s.bytes name)) names (place + 1) place first.name told below first.at in
    let bytes = told_as (s.bytes first.name) some in
    let run = run_in s.bytes names place first.name runs have first.at in
    run_or_fault (s.bytes first.name) bytes.0 run.0 fault bytes.1 run.1 quiet first.here

-- the first fault
broken_gets : (names : List (List ℕ)) (s : Shelf) (Did : List StoreAct → Type 0) (w : Writing) (status : ℕ)
    → AnswersRerun names s Did w status → ¬ HasShelfFault s → (place : ℕ) (fault : RerunFault)
    → AreNamesTold s (take (place + 1) names) → IsFirstFault names s place fault
    → Gets status (rerun_fault_status fault)
broken_gets names s Did w status (inl (Rerun text, (runs, ids, left, some, line), ends)) calm place fault told first =
    absurd (none_at names s runs calm place fault told first left.have)
broken_gets names s Did w status (inl (NothingLeft, (runs, left), ends)) calm place fault told first =
    absurd (none_at names s runs calm place fault told first left.have)
broken_gets names s Did w status (inl (Faulty other last, (found, visits), ends)) calm place fault told first =
    subst (Gets status) (same_fault names s place other fault last calm told first found)
    (same_gets w (line_bytes (verdict_text (Faulty other last))) (rerun_fault_status last) status ends)
broken_gets names s Did w status (inr (early, done, calm)) quiet place fault told first = inr early.0

-- a chain that leaves some tests outstanding
same_chain : (names : List (List ℕ)) (s : Shelf) (runs others : List StoredRun) → HasChain names s runs
    → HaveRuns s.bytes names others → map (λ run. run.tests) others ≡ map (λ run. run.tests) runs
same_chain names s runs others chain have = same_tests s.bytes names runs others chain.told chain.have have

some_gets : (names : List (List ℕ)) (s : Shelf) (Did : List StoreAct → Type 0) (w : Writing) (status : ℕ)
    → AnswersRerun names s Did w status → (runs : List StoredRun) → HasChain names s runs → (id : TestInstanceId)
    → leaves_test runs id ≡ true → ¬ HasWriteFault w → Gets status 0
some_gets names s Did w status (inl (Rerun text, (others, ids, left, some, line), ends)) runs chain id is calm =
    calm_gets w (line_bytes text) 0 9 status ends calm
some_gets names s Did w status (inl (NothingLeft, (others, left), ends)) runs chain id is calm =
    absurd (none_left (map (λ run. run.tests) others) id left.left
    (ap (λ tests. is_outstanding tests id) (same_chain names s runs others chain left.have) ∙ is))
some_gets names s Did w status (inl (Faulty place fault, (first, visits), ends)) runs chain id is calm =
    absurd (chain_or_fault names s runs place fault chain first)
some_gets names s Did w status (inr (early, done, quiet)) runs chain id is calm = inr early.0

-- one that leaves none
none_gets : (names : List (List ℕ)) (s : Shelf) (Did : List StoreAct → Type 0) (w : Writing) (status : ℕ)
    → AnswersRerun names s Did w status → (runs : List StoredRun) → HasChain names s runs
    → ((id : TestInstanceId) → leaves_test runs id ≡ false) → ¬ HasWriteFault w → Gets status 4
none_gets names s Did w status (inl (Rerun text, (others, ids, left, some, line), ends)) runs chain none calm =
    absurd (one_left (map (λ run. run.tests) others) ids left.left some
    (λ id. ap (λ tests. is_outstanding tests id) (same_chain names s runs others chain left.have) ∙ none id))
none_gets names s Did w status (inl (NothingLeft, (others, left), ends)) runs chain none calm =
    calm_gets w (line_bytes (verdict_text NothingLeft)) 4 9 status ends calm
none_gets names s Did w status (inl (Faulty place fault, (first, visits), ends)) runs chain none calm =
    absurd (chain_or_fault names s runs place fault chain first)
none_gets names s Did w status (inr (early, done, quiet)) runs chain none calm = inr early.0

-- one of either kind, where the sink failed
unwritten_gets : (names : List (List ℕ)) (s : Shelf) (Did : List StoreAct → Type 0) (w : Writing) (status : ℕ)
    → AnswersRerun names s Did w status → (runs : List StoredRun) → HasChain names s runs
    → w.faults < w.faults_after → Gets status 9
unwritten_gets names s Did w status (inl (Rerun text, (others, ids, left, some, line), ends)) runs chain lt =
    rose_gets w (line_bytes text) 0 9 status ends lt
unwritten_gets names s Did w status (inl (NothingLeft, (others, left), ends)) runs chain lt =
    rose_gets w (line_bytes (verdict_text NothingLeft)) 4 9 status ends lt
unwritten_gets names s Did w status (inl (Faulty place fault, (first, visits), ends)) runs chain lt =
    absurd (chain_or_fault names s runs place fault chain first)
unwritten_gets names s Did w status (inr (early, done, quiet)) runs chain lt = inr early.0

-- ---- the statuses that there are

listed : (k status : ℕ) → k < 11 → slice_index_or rerun_statuses k status ≡ status → Contains rerun_statuses status
listed k status within is = (k, within, is)

line_known : (w : Writing) (text : List ℕ) (written failed status : ℕ) → EndsWith w text written failed status
    → Contains rerun_statuses written → Contains rerun_statuses failed → Contains rerun_statuses status
line_known w text written failed status (inl (is, took, same)) one two = subst (Contains rerun_statuses) (sym is) one
line_known w text written failed status (inr (inl (is, took, le, rose))) one two =
    subst (Contains rerun_statuses) (sym is) two
line_known w text written failed status (inr (inr (is, short))) one two =
    subst (Contains rerun_statuses) (sym is) (listed 7 11 (omega arith) refl)

fault_known : (fault : RerunFault) → Contains rerun_statuses (rerun_fault_status fault)
fault_known faults.Read = listed 6 10 (omega arith) refl
fault_known faults.TooLong = listed 8 12 (omega arith) refl
fault_known faults.Torn = listed 9 14 (omega arith) refl
fault_known (faults.Bad n) = listed 10 15 (omega arith) refl
fault_known (faults.Plan f) = listed 2 5 (omega arith) refl
fault_known (faults.NotEnabled n) = listed 3 6 (omega arith) refl
fault_known (faults.ThirdSignal n) = listed 4 7 (omega arith) refl

is_known : (names : List (List ℕ)) (s : Shelf) (Did : List StoreAct → Type 0) (w : Writing) (status : ℕ)
    → AnswersRerun names s Did w status → Contains rerun_statuses status
is_known names s Did w status (inl (Rerun text, v, ends)) =
    line_known w (line_bytes text) 0 9 status ends (listed 0 0 (omega arith) refl) (listed 5 9 (omega arith) refl)
is_known names s Did w status (inl (NothingLeft, v, ends)) =
    line_known w (line_bytes (verdict_text NothingLeft)) 4 9 status ends (listed 1 4 (omega arith) refl)
    (listed 5 9 (omega arith) refl)
is_known names s Did w status (inl (Faulty place fault, v, ends)) =
    line_known w (line_bytes (verdict_text (Faulty place fault))) (rerun_fault_status fault) (rerun_fault_status fault)
    status ends (fault_known fault) (fault_known fault)
is_known names s Did w status (inr (early, done, quiet)) =
    subst (Contains rerun_statuses) (sym early.0) (listed 7 11 (omega arith) refl)

-- 10 comes of a store that could not be read alone
pub line_is : (w : Writing) (text : List ℕ) (written failed status : ℕ) → EndsWith w text written failed status
    → status ≡ 10 → (written ≡ 10) ⊎ (failed ≡ 10)
line_is w text written failed status (inl (is, took, same)) ten = inl (sym is ∙ ten)
line_is w text written failed status (inr (inl (is, took, le, rose))) ten = inr (sym is ∙ ten)
line_is w text written failed status (inr (inr (is, short))) ten = absurd (omega arith)

other_than : (a b : ℕ) → (a ≡ 10 → ⊥) → (b ≡ 10 → ⊥) → (a ≡ 10) ⊎ (b ≡ 10) → ⊥
other_than a b not_a not_b (inl is) = not_a is
other_than a b not_a not_b (inr is) = not_b is

pub either_ten : (a : ℕ) → (a ≡ 10) ⊎ (a ≡ 10) → a ≡ 10
either_ten a (inl is) = is
either_ten a (inr is) = is

read_rose : (names : List (List ℕ)) (s : Shelf) (Did : List StoreAct → Type 0) (w : Writing) (status : ℕ)
    → AnswersRerun names s Did w status → status ≡ 10 → HasShelfFault s
read_rose names s Did w status (inl (Rerun text, v, ends)) ten =
    absurd (other_than 0 9 (λ is. omega arith) (λ is. omega arith) (line_is w (line_bytes text) 0 9 status ends ten))
read_rose names s Did w status (inl (NothingLeft, v, ends)) ten =
    absurd (other_than 4 9 (λ is. omega arith) (λ is. omega arith)
    (line_is w (line_bytes (verdict_text NothingLeft)) 4 9 status ends ten))
read_rose names s Did w status (inl (Faulty place fault, (first, visits), ends)) ten =
    by_fault fault first.counted (either_ten (rerun_fault_status fault)
    (line_is w (line_bytes (verdict_text (Faulty place fault))) (rerun_fault_status fault) (rerun_fault_status fault)
    status ends ten))
  where
    by_fault : (fault : RerunFault) → RoseExactlyIf (is_reading_fault fault) s.faults s.faults_after
        → rerun_fault_status fault ≡ 10 → HasShelfFault s
    by_fault faults.Read rose is = rose.1
    by_fault faults.TooLong rose is = absurd (omega arith)
    by_fault faults.Torn rose is = absurd (omega arith)
    by_fault (faults.Bad n) rose is = absurd (omega arith)
    by_fault (faults.Plan f) rose is = absurd (omega arith)
    by_fault (faults.NotEnabled n) rose is = absurd (omega arith)
    by_fault (faults.ThirdSignal n) rose is = absurd (omega arith)
read_rose names s Did w status (inr (early, done, quiet)) ten = let is = early.0 in absurd (omega arith)

-- each cause gives its status
pub rerun_gets : (names : List (List ℕ)) (s : Shelf) (Did : List StoreAct → Type 0) (w : Writing) (status : ℕ)
    → AnswersRerun names s Did w status → GetsRerun names s w status
rerun_gets names s Did w status h = record {
  known = is_known names s Did w status h;
  unread = unread_gets names s Did w status h;
  read = read_rose names s Did w status h;
  broken = broken_gets names s Did w status h;
  some = some_gets names s Did w status h;
  none = none_gets names s Did w status h;
  unwritten = unwritten_gets names s Did w status h;
}
