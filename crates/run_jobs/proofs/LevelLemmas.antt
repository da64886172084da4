-- The levels of jobs, job by job.
use Rattle.std.proofs.Common.{◌≡◌, ◌∙◌, ℕ, zero, suc, ◌+◌, ◌<◌, ◌≤◌, List, [], ◌∷◌, ◌++◌, length, get_or}
use Rattle.std.proofs.Common.{Bool, true, false, cond, ◌==◌, refl, sym, ap, subst, arith, length-append, add-one}
use Rattle.std.proofs.lemmas.Grind.{common_steps}
use Rattle.std.proofs.lemmas.List.{append-nil}
use Rattle.std.proofs.lemmas.Grind.{get_or_default_zero}
use Rattle.run_jobs.specs.declared.job.Job.{Job}
use Rattle.run_jobs.specs.Jobs.{after_of}
use Rattle.run_jobs.specs.Levels.{AreLow, at_level, first_levels, job_level, level_after, levels_of}

-- there are as many
pub length-levels : (jobs : List Job) (n : ℕ) → length (first_levels jobs n) ≡ n
length-levels jobs zero = refl
length-levels jobs (suc n) =
    length-append (first_levels jobs n) (level_after (first_levels jobs n) (after_of jobs n) ∷ [])
    ∙ ap (λ m. m + 1) (length-levels jobs n) ∙ add-one n

pub count_levels : (jobs : List Job) → length (levels_of jobs) ≡ length jobs
count_levels jobs = length-levels jobs (length jobs)

-- the level that stands at the place of a job
pub level_read : (jobs : List Job) (k d : ℕ) → k < length jobs → get_or (levels_of jobs) k d ≡ job_level jobs k
level_read jobs k d within =
    let inside : k < length (levels_of jobs) = subst (λ n. k < n) (sym (count_levels jobs)) within in
    get_or_default_zero (levels_of jobs) k d inside

-- one more small level
pub small_more : (levels : List ℕ) (level : ℕ) → AreLow levels → level ≤ length levels
    → AreLow (levels ++ level ∷ [])
small_more [] level small within zero = omega arith
small_more [] level small within (suc k) = omega arith
small_more (l ∷ levels) level small within k = grind (arith, common_steps, small k)

one_more : (w k m : ℕ) (levels : List ℕ) (l : ℕ)
    → at_level w (suc k) (levels ++ l ∷ [])
    ≡ at_level w (suc k) levels ++ cond (l == w) ((suc k + length levels) ∷ []) []
    → at_level w k ((m ∷ levels) ++ l ∷ [])
    ≡ at_level w k (m ∷ levels) ++ cond (l == w) ((k + suc (length levels)) ∷ []) []
one_more w k m levels l less = by_test (m == w)
  where
    moved : suc k + length levels ≡ k + suc (length levels)
    moved = omega arith

    rest : at_level w (suc k) (levels ++ l ∷ [])
        ≡ at_level w (suc k) levels ++ cond (l == w) ((k + suc (length levels)) ∷ []) []
    rest = less ∙ ap (λ n. at_level w (suc k) levels ++ cond (l == w) (n ∷ []) []) moved

    by_test : (b : Bool) → cond b (k ∷ at_level w (suc k) (levels ++ l ∷ [])) (at_level w (suc k) (levels ++ l ∷ []))
        ≡ cond b (k ∷ at_level w (suc k) levels) (at_level w (suc k) levels)
        ++ cond (l == w) ((k + suc (length levels)) ∷ []) []
    by_test true = ap (λ ks. k ∷ ks) rest
    by_test false = rest

-- the jobs of a level with one more
pub at_level_more : (w k : ℕ) (levels : List ℕ) (l : ℕ)
    → at_level w k (levels ++ l ∷ []) ≡ at_level w k levels ++ cond (l == w) ((k + length levels) ∷ []) []
at_level_more w k [] l = by_test (l == w)
  where
    same : k ≡ k + 0
    same = omega arith

    by_test : (b : Bool) → cond b (k ∷ []) [] ≡ cond b ((k + 0) ∷ []) []
    by_test true = ap (λ n. n ∷ []) same
    by_test false = refl
at_level_more w k (m ∷ levels) l = one_more w k m levels l (at_level_more w (suc k) levels l)

-- an addition to one of two lists
pub added_or_not : (b : Bool) (ks : List ℕ) (k : ℕ) → cond b (ks ++ k ∷ []) ks ≡ ks ++ cond b (k ∷ []) []
added_or_not true ks k = refl
added_or_not false ks k = sym (append-nil ks)
