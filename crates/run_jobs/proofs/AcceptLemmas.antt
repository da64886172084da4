-- The plan of a wave is never refused.
use Rattle.std.proofs.Common.{◌≡◌, ◌∙◌, ℕ, zero, suc, ◌+◌, ◌<◌, ◌≤◌, ◌==◌, List, [], ◌∷◌, map, length}
use Rattle.std.proofs.Common.{take, filter, get_or}
use Rattle.std.proofs.Common.{Bool, true, false, cond, Option, Some, None, is_some, slice_get, refl, sym, ap}
use Rattle.std.proofs.Common.{arith, max, option_map}
use Rattle.std.proofs.Common.{length-take, get_or-take, option_and_then, nat_eq}
use Rattle.std.specs.Prelude.{⊤}
use Rattle.std.specs.List.{All, cons_option, filter_map}
use Rattle.std.specs.Option.{option_or}
use Rattle.std.proofs.lemmas.List.{length-take-le}
use Rattle.std.proofs.lemmas.List.Elements.{All-filter, All-from_get_or, All-head, All-tail, All-weaker}
use Rattle.std.proofs.lemmas.List.Folds.{list_any_at, list_any_none}
use Rattle.std.proofs.lemmas.Option.{get_or_from_slice_get}
use Rattle.run_events.specs.declared.plan.PlanTest.{PlanTest}
use Rattle.run_laws.proofs.board.Scan.{found_none}
use Rattle.run_engine.specs.Builder.{first_refused, is_among, is_repeat, refusal_at, refusal_of, test_refusal}
use Rattle.run_engine.specs.Builder.{zero_limit}
use Rattle.run_engine.specs.declared.errors.TestRunnerBuildError.TheVariants.{ZeroLimit}
use Rattle.run_model.specs.Reruns.{is_one_test}
use Rattle.run_jobs.specs.declared.job.Job.{Job}
use Rattle.run_jobs.specs.declared.job.JobState.{JobState}
use Rattle.run_jobs.specs.declared.job.JobsError.TheVariants.{ZeroThreads}
use Rattle.run_jobs.specs.Jobs.{Batch, first_fault, has_job, jobs_fault}
use Rattle.run_jobs.specs.Levels.{at_level, job_level, levels_of}
use Rattle.run_jobs.specs.States.{is_job_ready, ready_jobs}
use Rattle.run_jobs.specs.WavePlan.{plan_of_jobs, test_of_job, tests_of_jobs, wave_builder}
use Rattle.run_jobs.proofs.FaultLemmas.{job_sound, none_there, repeats_none, there_within}
use Rattle.run_jobs.proofs.PlaceLemmas.{places_all}
use Rattle.run_jobs.proofs.TestLemmas.{count_tests}
use lib.Pointwise.{pointwise}

-- numbers that rise from a number on
abbrev pub Rising : ℕ → List ℕ → Type 0
Rising b [] = ⊤
Rising b (k ∷ ks) = (b ≤ k) × Rising (suc k) ks

rising_from : (b c : ℕ) (ks : List ℕ) → c ≤ b → Rising b ks → Rising c ks
rising_from b c [] low rise = tt
rising_from b c (k ∷ ks) low rise = let h : b ≤ k = rise.0 in (omega arith, rise.1)

rising_level : (w b : ℕ) (levels : List ℕ) → Rising b (at_level w b levels)
rising_level w b [] = tt
rising_level w b (l ∷ levels) = by_test (l == w) (rising_level w (suc b) levels)
  where
    by_test : (t : Bool) → Rising (suc b) (at_level w (suc b) levels)
        → Rising b (cond t (b ∷ at_level w (suc b) levels) (at_level w (suc b) levels))
    by_test true rest = (omega arith, rest)
    by_test false rest = rising_from (suc b) b (at_level w (suc b) levels) (omega arith) rest

rising_filter : (p : ℕ → Bool) (b : ℕ) (ks : List ℕ) → Rising b ks → Rising b (filter p ks)
rising_filter p b [] rise = tt
rising_filter p b (k ∷ ks) rise = by_test (p k) (rising_filter p (suc k) ks rise.1)
  where
    by_test : (t : Bool) → Rising (suc k) (filter p ks) → Rising b (cond t (k ∷ filter p ks) (filter p ks))
    by_test true rest = (rise.0, rest)
    by_test false rest = let h : b ≤ k = rise.0 in rising_from (suc k) b (filter p ks) (omega arith) rest

rising_low : (b : ℕ) (ks : List ℕ) (i : ℕ) → Rising b ks → i < length ks → b ≤ get_or ks i 0
rising_low b [] i rise within = absurd (omega arith)
rising_low b (k ∷ ks) zero rise within = rise.0
rising_low b (k ∷ ks) (suc i) rise within =
    let h : suc k ≤ get_or ks i 0 = rising_low (suc k) ks i rise.1 (omega arith) in
    let low : b ≤ k = rise.0 in
    omega arith

rising_order : (b : ℕ) (ks : List ℕ) (m i : ℕ) → Rising b ks → m < i → i < length ks → get_or ks m 0 < get_or ks i 0
rising_order b [] m i rise before within = absurd (omega arith)
rising_order b (k ∷ ks) m zero rise before within = absurd (omega arith)
rising_order b (k ∷ ks) zero (suc i) rise before within = rising_low (suc k) ks i rise.1 (omega arith)
rising_order b (k ∷ ks) (suc m) (suc i) rise before within =
    rising_order (suc k) ks m i rise.1 (omega arith) (omega arith)

-- the test at a place is that of the job there
test_at : (jobs : List Job) (ks : List ℕ) (i : ℕ) → All (λ k. k < length jobs) ks → i < length ks
    → (job : Job) × (slice_get jobs (get_or ks i 0) ≡ Some job)
    × (slice_get (tests_of_jobs jobs ks) i ≡ Some (test_of_job job))
test_at jobs [] i all within = absurd (omega arith)
test_at jobs (k ∷ ks) i all within = by_job (slice_get jobs k) refl i within
    (λ m h. test_at jobs ks m (All-tail (λ k. k < length jobs) k ks all) h)
  where
    by_job : (o : Option Job) → slice_get jobs k ≡ o → (i : ℕ) → i < length (k ∷ ks)
        → ((m : ℕ) → m < length ks → (job : Job) × (slice_get jobs (get_or ks m 0) ≡ Some job)
        × (slice_get (tests_of_jobs jobs ks) m ≡ Some (test_of_job job)))
        → (job : Job) × (slice_get jobs (get_or (k ∷ ks) i 0) ≡ Some job)
        × (slice_get (map test_of_job (cons_option (slice_get jobs k) (filter_map (slice_get jobs) ks))) i
        ≡ Some (test_of_job job))
    by_job None at i within less =
        absurd (none_there jobs k (All-head (λ k. k < length jobs) k ks all) at)
    by_job (Some job) at zero within less = (
      job,
      at,
      ap (λ o. slice_get (map test_of_job (cons_option o (filter_map (slice_get jobs) ks))) 0) at,
    )
    by_job (Some job) at (suc m) within less =
        let rest = less m (omega arith) in (
          rest.0,
          rest.1,
          ap (λ o. slice_get (map test_of_job (cons_option o (filter_map (slice_get jobs) ks))) (suc m)) at ∙ rest.2,
        )

-- two jobs have two names
other_name : (jobs : List Job) (p q : ℕ) (a b : Job) → first_fault [] jobs ≡ None → q < p → slice_get jobs q ≡ Some a
    → slice_get jobs p ≡ Some b → pointwise nat_eq a.name b.name ≡ false
other_name jobs p q a b sound before at_q at_p = not_true (pointwise nat_eq a.name b.name) found
  where
    not_true : (t : Bool) → (t ≡ true → true ≡ false) → t ≡ false
    not_true true h = h refl
    not_true false h = refl

    within : p < length jobs
    within = there_within jobs p b at_p

    none : has_job (take p jobs) b.name ≡ false
    none = repeats_none p (has_job (take p jobs) b.name) b.after
        (job_sound jobs p b sound within (sym (get_or_from_slice_get jobs p b b at_p)))

    found : pointwise nat_eq a.name b.name ≡ true → true ≡ false
    found same =
        let count : length (take p jobs) ≡ p = length-take-le p jobs (omega (arith, within)) in
        let there : get_or (take p jobs) q a ≡ a =
        get_or-take p jobs q a before ∙ get_or_from_slice_get jobs q a a at_q in
        sym (list_any_at (λ (j : Job). pointwise nat_eq j.name b.name) (take p jobs) q a (omega (arith, before, count))
        (ap (λ (j : Job). pointwise nat_eq j.name b.name) there ∙ same)) ∙ none

-- so no test of a wave is refused
no_repeat : (jobs : List Job) (ks : List ℕ) (b i : ℕ) → first_fault [] jobs ≡ None → Rising b ks
    → All (λ k. k < length jobs) ks → i < length ks → is_repeat (tests_of_jobs jobs ks) i ≡ false
no_repeat jobs ks b i sound rise all within =
    ap (is_among (take i tests)) here.2
    ∙ list_any_none (λ (t : PlanTest). is_one_test t.id (test_of_job here.0).id) (take i tests)
    (All-from_get_or (λ (t : PlanTest). is_one_test t.id (test_of_job here.0).id ≡ false) (take i tests)
    (test_of_job here.0) apart)
  where
    tests : List PlanTest
    tests = tests_of_jobs jobs ks

    here : (job : Job) × (slice_get jobs (get_or ks i 0) ≡ Some job) × (slice_get tests i ≡ Some (test_of_job job))
    here = test_at jobs ks i all within

    apart : (m : ℕ) → m < length (take i tests)
        → is_one_test (get_or (take i tests) m (test_of_job here.0)).id (test_of_job here.0).id ≡ false
    apart m below =
        let before : m < i = omega (arith, length-take i tests, below) in
        let there = test_at jobs ks m all (omega (arith, before, within)) in
        let is : get_or (take i tests) m (test_of_job here.0) ≡ test_of_job there.0 =
        get_or-take i tests m (test_of_job here.0) before
        ∙ get_or_from_slice_get tests m (test_of_job there.0) (test_of_job here.0) there.2 in
        ap (λ (t : PlanTest). is_one_test t.id (test_of_job here.0).id) is
        ∙ other_name jobs (get_or ks i 0) (get_or ks m 0) there.0 here.0 sound
        (rising_order b ks m i rise before within) there.1 here.1

not_refused : (jobs : List Job) (ks : List ℕ) (b i : ℕ) → first_fault [] jobs ≡ None → Rising b ks
    → All (λ k. k < length jobs) ks → i < length ks
    → is_some (test_refusal [] None (tests_of_jobs jobs ks) i) ≡ false
not_refused jobs ks b i sound rise all within =
    let here = test_at jobs ks i all within in
    ap (λ o. is_some (option_and_then (refusal_at i (is_repeat (tests_of_jobs jobs ks) i) [] None) o)) here.2
    ∙ ap (λ r. is_some (refusal_at i r [] None (test_of_job here.0))) (no_repeat jobs ks b i sound rise all within)

none_refused : (jobs : List Job) (ks : List ℕ) (b : ℕ) → first_fault [] jobs ≡ None → Rising b ks
    → All (λ k. k < length jobs) ks → first_refused [] None (tests_of_jobs jobs ks) ≡ None
none_refused jobs ks b sound rise all =
    found_none (λ i. is_some (test_refusal [] None (tests_of_jobs jobs ks) i)) (length (tests_of_jobs jobs ks))
    (λ i below. not_refused jobs ks b i sound rise all (omega (arith, count_tests jobs ks all, below)))

-- the ready jobs of a level are jobs, and no more than there are
pub ready_within : (jobs : List Job) (states : List (Option JobState)) (w : ℕ)
    → All (λ k. k < length jobs) (ready_jobs jobs states w)
ready_within jobs states w =
    All-filter (is_job_ready jobs states) (λ k. k < length jobs) (at_level w 0 (levels_of jobs))
    (All-weaker (λ j. (j < length jobs) × (job_level jobs j ≡ w)) (λ k. k < length jobs) (λ j h. h.0)
    (at_level w 0 (levels_of jobs)) (places_all jobs w))

rising_few : (b n : ℕ) (ks : List ℕ) → Rising b ks → All (λ k. k < n) ks → length ks + b ≤ max b n
rising_few b n [] rise within = omega arith
rising_few b n (k ∷ ks) rise within =
    let low : b ≤ k = rise.0 in
    let high : k < n = All-head (λ k. k < n) k ks within in
    let rest : length ks + suc k ≤ max (suc k) n =
    rising_few (suc k) n ks rise.1 (All-tail (λ k. k < n) k ks within) in
    omega arith

pub few_ready : (jobs : List Job) (states : List (Option JobState)) (w : ℕ)
    → length (ready_jobs jobs states w) ≤ length jobs
few_ready jobs states w =
    let h : length (ready_jobs jobs states w) + 0 ≤ max 0 (length jobs) =
    rising_few 0 (length jobs) (ready_jobs jobs states w)
    (rising_filter (is_job_ready jobs states) 0 (at_level w 0 (levels_of jobs)) (rising_level w 0 (levels_of jobs)))
    (ready_within jobs states w) in
    omega arith

pub few_places : (jobs : List Job) (w : ℕ) → length (at_level w 0 (levels_of jobs)) ≤ length jobs
few_places jobs w =
    let h : length (at_level w 0 (levels_of jobs)) + 0 ≤ max 0 (length jobs) =
    rising_few 0 (length jobs) (at_level w 0 (levels_of jobs)) (rising_level w 0 (levels_of jobs))
    (All-weaker (λ j. (j < length jobs) × (job_level jobs j ≡ w)) (λ k. k < length jobs) (λ j h. h.0)
    (at_level w 0 (levels_of jobs)) (places_all jobs w)) in
    omega arith

-- what nothing is wrong with
sound_both : (threads : ℕ) (jobs : List Job) → jobs_fault threads jobs ≡ None
    → ((threads == 0) ≡ false) × (first_fault [] jobs ≡ None)
sound_both threads jobs none = by_test (threads == 0) none
  where
    by_test : (b : Bool) → cond b (Some ZeroThreads) (first_fault [] jobs) ≡ None
        → (b ≡ false) × (first_fault [] jobs ≡ None)
    by_test true none = cc
    by_test false none = (refl, none)

pub sound_jobs : (threads : ℕ) (jobs : List Job) → jobs_fault threads jobs ≡ None → first_fault [] jobs ≡ None
sound_jobs threads jobs none = (sound_both threads jobs none).1

pub accepted : (batch : Batch) (states : List (Option JobState)) (w : ℕ) → jobs_fault batch.threads batch.jobs ≡ None
    → refusal_of (wave_builder batch.threads) (plan_of_jobs batch (ready_jobs batch.jobs states w)) ≡ None
accepted batch states w sound =
    ap (λ o. option_or o (option_and_then (test_refusal [] None tests) (first_refused [] None tests))) no_limit
    ∙ ap (option_and_then (test_refusal [] None tests))
    (none_refused batch.jobs ks 0 both.1
    (rising_filter (is_job_ready batch.jobs states) 0 (at_level w 0 (levels_of batch.jobs))
    (rising_level w 0 (levels_of batch.jobs))) (ready_within batch.jobs states w))
  where
    ks : List ℕ
    ks = ready_jobs batch.jobs states w

    tests : List PlanTest
    tests = tests_of_jobs batch.jobs ks

    both : ((batch.threads == 0) ≡ false) × (first_fault [] batch.jobs ≡ None)
    both = sound_both batch.threads batch.jobs sound

    no_limit : option_map ZeroLimit (zero_limit batch.threads []) ≡ None
    no_limit = ap (λ b. option_map ZeroLimit (cond b (Some None) None)) both.0
