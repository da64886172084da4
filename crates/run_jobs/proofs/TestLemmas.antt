-- The tests of a wave, one by one.
use Rattle.std.proofs.Common.{◌≡◌, ◌∙◌, ℕ, suc, ◌+◌, ◌<◌, List, [], ◌∷◌, ◌++◌, map, length, take, filter}
use Rattle.std.proofs.Common.{get_or}
use Rattle.std.proofs.Common.{Bool, true, false, cond, Option, Some, None, is_none, is_some, not, slice_get, refl}
use Rattle.std.proofs.Common.{sym, ap, arith}
use Rattle.std.specs.List.{All, cons_option, filter_map}
use Rattle.std.specs.Option.{option_map_or}
use Rattle.std.proofs.lemmas.List.{map-append, take_more}
use Rattle.std.proofs.lemmas.List.Elements.{All-head, All-tail, filter-append, filter_map-append}
use Rattle.run_jobs.specs.declared.job.Job.{Job}
use Rattle.run_jobs.specs.declared.job.JobState.{JobState}
use Rattle.run_jobs.specs.Jobs.{Batch}
use Rattle.run_jobs.specs.States.{first_unpassed, is_job_ready}
use Rattle.run_jobs.specs.WavePlan.{plan_of_jobs, test_of_job, tests_of_jobs, wave_builder, wave_with}
use Rattle.run_jobs.proofs.FaultLemmas.{none_there}

tests_append : (jobs : List Job) (xs ys : List ℕ)
    → tests_of_jobs jobs (xs ++ ys) ≡ tests_of_jobs jobs xs ++ tests_of_jobs jobs ys
tests_append jobs xs ys =
    ap (map test_of_job) (filter_map-append (slice_get jobs) xs ys)
    ∙ map-append test_of_job (filter_map (slice_get jobs) xs) (filter_map (slice_get jobs) ys)

-- with one more job of a level
pub tests_more : (jobs : List Job) (p : ℕ → Bool) (level : List ℕ) (i : ℕ) → i < length level
    → tests_of_jobs jobs (filter p (take (i + 1) level))
    ≡ tests_of_jobs jobs (filter p (take i level)) ++ tests_of_jobs jobs (filter p (get_or level i 0 ∷ []))
tests_more jobs p level i within =
    ap (λ ks. tests_of_jobs jobs (filter p ks)) (take_more level i 0 within)
    ∙ ap (tests_of_jobs jobs) (filter-append p (take i level) (get_or level i 0 ∷ []))
    ∙ tests_append jobs (filter p (take i level)) (filter p (get_or level i 0 ∷ []))

-- which is ready, or not, or is no job
ready_is : (jobs : List Job) (states : List (Option JobState)) (k : ℕ) (job : Job) (o : Option ℕ)
    → slice_get jobs k ≡ Some job → o ≡ first_unpassed states job.after → is_job_ready jobs states k ≡ is_none o
ready_is jobs states k job o at is =
    ap (λ j. is_none (first_unpassed states (option_map_or (λ (x : Job). x.after) j []))) at ∙ ap is_none (sym is)

none_some : {X : Type 0} (o : Option X) → is_none o ≡ not (is_some o)
none_some None = refl
none_some (Some x) = refl

pub one_ready : (jobs : List Job) (states : List (Option JobState)) (k : ℕ) (job : Job) (o : Option ℕ)
    → slice_get jobs k ≡ Some job → o ≡ first_unpassed states job.after → is_some o ≡ false
    → tests_of_jobs jobs (filter (is_job_ready jobs states) (k ∷ [])) ≡ test_of_job job ∷ []
one_ready jobs states k job o at is none =
    ap (λ b. tests_of_jobs jobs (cond b (k ∷ []) [])) (ready_is jobs states k job o at is ∙ none_some o ∙ ap not none)
    ∙ ap (λ j. map test_of_job (cons_option j [])) at

pub one_waiting : (jobs : List Job) (states : List (Option JobState)) (k : ℕ) (job : Job) (o : Option ℕ)
    → slice_get jobs k ≡ Some job → o ≡ first_unpassed states job.after → is_some o ≡ true
    → tests_of_jobs jobs (filter (is_job_ready jobs states) (k ∷ [])) ≡ []
one_waiting jobs states k job o at is some =
    ap (λ b. tests_of_jobs jobs (cond b (k ∷ []) [])) (ready_is jobs states k job o at is ∙ none_some o ∙ ap not some)

pub no_such_job : (jobs : List Job) (states : List (Option JobState)) (k : ℕ) → slice_get jobs k ≡ None
    → tests_of_jobs jobs (filter (is_job_ready jobs states) (k ∷ [])) ≡ []
no_such_job jobs states k none = by_test (is_job_ready jobs states k)
  where
    by_test : (b : Bool) → tests_of_jobs jobs (cond b (k ∷ []) []) ≡ []
    by_test true = ap (λ j. map test_of_job (cons_option j [])) none
    by_test false = refl

-- there is a test for each of them
pub count_tests : (jobs : List Job) (ks : List ℕ) → All (λ k. k < length jobs) ks
    → length (tests_of_jobs jobs ks) ≡ length ks
count_tests jobs [] within = refl
count_tests jobs (k ∷ ks) within =
    by_job (slice_get jobs k) refl (count_tests jobs ks (All-tail (λ k. k < length jobs) k ks within))
  where
    by_job : (o : Option Job) → slice_get jobs k ≡ o → length (tests_of_jobs jobs ks) ≡ length ks
        → length (map test_of_job (cons_option (slice_get jobs k) (filter_map (slice_get jobs) ks))) ≡ suc (length ks)
    by_job None at less = absurd (none_there jobs k (All-head (λ k. k < length jobs) k ks within) at)
    by_job (Some job) at less =
        ap (λ j. length (map test_of_job (cons_option j (filter_map (slice_get jobs) ks)))) at ∙ ap suc less

pub wave_none : (batch : Batch) (ks : List ℕ) → length ks ≡ 0 → wave_with batch ks ≡ None
wave_none batch [] none = refl
wave_none batch (k ∷ ks) none = absurd (omega arith)

pub wave_some : (batch : Batch) (ks : List ℕ) (n : ℕ) → length ks ≡ suc n
    → wave_with batch ks ≡ Some (wave_builder batch.threads, plan_of_jobs batch ks)
wave_some batch [] n some = absurd (omega arith)
wave_some batch (k ∷ ks) n some = refl
