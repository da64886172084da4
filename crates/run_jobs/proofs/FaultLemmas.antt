-- What is wrong with jobs, job by job.
use Rattle.std.proofs.Common.{◌≡◌, ◌∙◌, ℕ, zero, suc, ◌+◌, ◌<◌, ◌≤◌, List, [], ◌∷◌, ◌++◌, length, take, drop, get_or}
use Rattle.std.proofs.Common.{Bool, true, false, not, cond, ◌||◌, Option, Some, None, is_some, option_map}
use Rattle.std.proofs.Common.{slice_get, nat_lt}
use Rattle.std.proofs.Common.{refl, sym, ap, arith, drop-cons, add-one}
use Rattle.std.specs.List.{All}
use Rattle.std.specs.Option.{option_or, option_map_or}
use Rattle.std.proofs.lemmas.List.{take_more, length-take-le}
use Rattle.std.proofs.lemmas.List.Elements.{All-nil, All-cons}
use Rattle.std.proofs.lemmas.Option.{get_or_from_slice_get}
use Rattle.run_jobs.specs.declared.job.Job.{Job}
use Rattle.run_jobs.specs.declared.job.JobsError.TheVariants.{BadAfter}
use Rattle.run_jobs.specs.Jobs.{fault_here, first_fault, first_not_below, has_job}
use Rattle.run_jobs.specs.Levels.{AreOrdered}

-- the first of two, where it is there, and else the second
pub or_first : {X : Type 0} (o p : Option X) → is_some o ≡ true → option_or o p ≡ o
or_first None p is = cc
or_first (Some x) p is = refl

pub or_second : {X : Type 0} (o p : Option X) → is_some o ≡ false → option_or o p ≡ p
or_second None p is = refl
or_second (Some x) p is = cc

pub neither : {X : Type 0} (o p : Option X) → option_or o p ≡ None → (o ≡ None) × (p ≡ None)
neither None p none = (refl, none)
neither (Some x) p none = cc

-- an insertion that adds nothing found what it inserts, and one that adds didn't
pub not_added : (added had : Bool) → added ≡ not had → not added ≡ had
not_added added true e = ap not e
not_added added false e = ap not e

-- what a set of names has with one more
pub one_more_name : (b had c : Bool) → had ≡ c → cond b true had ≡ (c || b)
one_more_name true had true e = refl
one_more_name true had false e = refl
one_more_name false had true e = e
one_more_name false had false e = e

-- the first fault by that of the next job
pub fault_step : (jobs : List Job) (p : ℕ) (job : Job) → p < length jobs → job ≡ get_or jobs p job
    → first_fault (take p jobs) (drop p jobs)
    ≡ option_or (fault_here p (has_job (take p jobs) job.name) job.after)
    (first_fault (take (p + 1) jobs) (drop (p + 1) jobs))
fault_step jobs p job within is =
    let count : length (take p jobs) ≡ p = length-take-le p jobs (omega arith) in
    let next : take p jobs ++ job ∷ [] ≡ take (p + 1) jobs =
    ap (λ j. take p jobs ++ j ∷ []) is ∙ sym (take_more jobs p job within) in
    let rest : drop p jobs ≡ job ∷ drop (p + 1) jobs =
    drop-cons jobs p job within ∙ ap (λ j. j ∷ drop (suc p) jobs) (sym is)
    ∙ ap (λ n. job ∷ drop n jobs) (sym (add-one p)) in
    ap (first_fault (take p jobs)) rest
    ∙ ap (λ n. option_or (fault_here n (has_job (take p jobs) job.name) job.after)
    (first_fault (take p jobs ++ job ∷ []) (drop (p + 1) jobs))) count
    ∙ ap (λ before. option_or (fault_here p (has_job (take p jobs) job.name) job.after)
    (first_fault before (drop (p + 1) jobs))) next

pub some_is : {X : Type 0} (x y : X) → Some x ≡ Some y → x ≡ y
some_is x y e = cc

-- a place within a list has an item
pub none_there : {X : Type 0} (xs : List X) (p : ℕ) → p < length xs → slice_get xs p ≡ None → ⊥
none_there [] p below none = absurd (omega arith)
none_there (x ∷ xs) zero below none = cc
none_there (x ∷ xs) (suc p) below none = none_there xs p (omega arith) none

pub there_within : {X : Type 0} (xs : List X) (p : ℕ) (x : X) → slice_get xs p ≡ Some x → p < length xs
there_within [] p x at = cc
there_within (y ∷ ys) zero x at = omega arith
there_within (y ∷ ys) (suc p) x at = let h = there_within ys p x at in omega arith

-- where nothing is wrong, nothing is with the rest
one_less : (jobs : List Job) (p : ℕ) → p < length jobs → first_fault (take p jobs) (drop p jobs) ≡ None
    → first_fault (take (suc p) jobs) (drop (suc p) jobs) ≡ None
one_less jobs p inside none = by_job (slice_get jobs p) refl
  where
    by_job : (o : Option Job) → slice_get jobs p ≡ o → first_fault (take (suc p) jobs) (drop (suc p) jobs) ≡ None
    by_job None at = absurd (none_there jobs p inside at)
    by_job (Some job) at =
        let is : job ≡ get_or jobs p job = sym (get_or_from_slice_get jobs p job job at) in
        let both = neither (fault_here p (has_job (take p jobs) job.name) job.after)
        (first_fault (take (p + 1) jobs) (drop (p + 1) jobs))
        (sym (fault_step jobs p job inside is) ∙ none) in
        ap (λ n. first_fault (take n jobs) (drop n jobs)) (sym (add-one p)) ∙ both.1

pub rest_sound : (jobs : List Job) (p : ℕ) → p ≤ length jobs → first_fault [] jobs ≡ None
    → first_fault (take p jobs) (drop p jobs) ≡ None
rest_sound jobs zero within none = none
rest_sound jobs (suc p) within none = one_less jobs p (omega arith) (rest_sound jobs p (omega arith) none)

-- nor with any job
pub job_sound : (jobs : List Job) (p : ℕ) (job : Job) → first_fault [] jobs ≡ None → p < length jobs
    → job ≡ get_or jobs p job → fault_here p (has_job (take p jobs) job.name) job.after ≡ None
job_sound jobs p job none within is =
    (neither (fault_here p (has_job (take p jobs) job.name) job.after)
    (first_fault (take (p + 1) jobs) (drop (p + 1) jobs))
    (sym (fault_step jobs p job within is) ∙ rest_sound jobs p (omega arith) none)).0

-- a job with which nothing is wrong repeats no name, and waits for lower numbers alone
pub repeats_none : (k : ℕ) (repeats : Bool) (after : List ℕ) → fault_here k repeats after ≡ None → repeats ≡ false
repeats_none k true after none = cc
repeats_none k false after none = refl

waits_below : (k : ℕ) (repeats : Bool) (after : List ℕ) → fault_here k repeats after ≡ None
    → first_not_below k after ≡ None
waits_below k true after none = cc
waits_below k false after none = by_first (first_not_below k after) none
  where
    by_first : (o : Option ℕ) → option_map (BadAfter k) o ≡ None → o ≡ None
    by_first None none = refl
    by_first (Some a) none = cc

below_one : (k a : ℕ) (after : List ℕ) → (first_not_below k after ≡ None → All (λ a. a < k) after)
    → first_not_below k (a ∷ after) ≡ None → All (λ a. a < k) (a ∷ after)
below_one k a after rest none = by_test (nat_lt a k) refl none
  where
    by_test : (b : Bool) → nat_lt a k ≡ b → cond b (first_not_below k after) (Some a) ≡ None
        → All (λ a. a < k) (a ∷ after)
    by_test true at none =
        let below : a < k = grind (arith, at) in
        All-cons (λ a. a < k) a after below (rest none)
    by_test false at none = cc

below_all : (k : ℕ) (after : List ℕ) → first_not_below k after ≡ None → All (λ a. a < k) after
below_all k [] none = All-nil (λ a. a < k)
below_all k (a ∷ after) none = below_one k a after (below_all k after) none

-- so the jobs are in order
pub in_order : (jobs : List Job) → first_fault [] jobs ≡ None → AreOrdered jobs
in_order jobs none k = by_job (slice_get jobs k) refl
  where
    by_job : (o : Option Job) → slice_get jobs k ≡ o → All (λ a. a < k) (option_map_or (λ (job : Job). job.after) o [])
    by_job None at = All-nil (λ a. a < k)
    by_job (Some job) at =
        let inside : k < length jobs = there_within jobs k job at in
        let is : job ≡ get_or jobs k job = sym (get_or_from_slice_get jobs k job job at) in
        below_all k job.after
        (waits_below k (has_job (take k jobs) job.name) job.after (job_sound jobs k job none inside is))
