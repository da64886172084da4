-- The states of jobs, job by job.
use Rattle.std.proofs.Common.{◌≡◌, ◌∙◌, ℕ, zero, suc, ◌+◌, ◌<◌, ◌≤◌, List, [], ◌∷◌, ◌++◌, length, take}
use Rattle.std.proofs.Common.{get_or, filter, Bool, cond, Option, Some, is_none, slice_get}
use Rattle.std.proofs.Common.{refl, sym}
use Rattle.std.proofs.Common.{ap, subst, arith, length-append, add-one, inl, inr, ◌⊎◌}
use Rattle.std.specs.List.{All}
use Rattle.std.proofs.lemmas.List.Elements.{All-nil, All-cons, All-head, All-tail, All-weaker}
use Rattle.run_jobs.specs.declared.job.Job.{Job}
use Rattle.run_jobs.specs.declared.job.JobState.{JobState}
use Rattle.run_jobs.specs.Jobs.{after_of}
use Rattle.run_jobs.specs.Levels.{AreOrdered, at_level, first_levels, job_level, level_after, levels_of}
use Rattle.run_jobs.specs.Settled.{AreKnown}
use Rattle.run_jobs.specs.States.{Wave, first_states, first_unpassed, has_state_passed, is_job_ready, job_passed}
use Rattle.run_jobs.specs.States.{job_state}
use Rattle.run_jobs.specs.States.{ready_jobs, state_with, states_after, wave_unit}
use Rattle.run_jobs.proofs.LevelLemmas.{length-levels}
use Rattle.run_jobs.proofs.PlaceLemmas.{places_all, places_before}

-- what stands in a list and in a longer one
pub read_before : {X : Type 0} (xs ys : List X) (k : ℕ) → k < length xs → slice_get (xs ++ ys) k ≡ slice_get xs k
read_before [] ys k below = absurd (omega arith)
read_before (x ∷ xs) ys zero below = refl
read_before (x ∷ xs) ys (suc k) below = read_before xs ys k (omega arith)

pub read_next : {X : Type 0} (xs : List X) (y : X) (k : ℕ) → k ≡ length xs → slice_get (xs ++ y ∷ []) k ≡ Some y
read_next [] y zero is = refl
read_next [] y (suc k) is = absurd (omega arith)
read_next (x ∷ xs) y zero is = absurd (omega arith)
read_next (x ∷ xs) y (suc k) is = read_next xs y k (omega arith)

pub item_before : (xs ys : List ℕ) (k : ℕ) → k < length xs → get_or (xs ++ ys) k 0 ≡ get_or xs k 0
item_before [] ys k below = absurd (omega arith)
item_before (x ∷ xs) ys zero below = refl
item_before (x ∷ xs) ys (suc k) below = item_before xs ys k (omega arith)

pub item_next : (xs : List ℕ) (y k : ℕ) → k ≡ length xs → get_or (xs ++ y ∷ []) k 0 ≡ y
item_next [] y zero is = refl
item_next [] y (suc k) is = absurd (omega arith)
item_next (x ∷ xs) y zero is = absurd (omega arith)
item_next (x ∷ xs) y (suc k) is = item_next xs y k (omega arith)

-- below a number, or at it
pub below_or_at : (k n : ℕ) → k < suc n → (k < n) ⊎ (k ≡ n)
below_or_at k zero below = inr (omega arith)
below_or_at zero (suc n) below = inl (omega arith)
below_or_at (suc k) (suc n) below = step (below_or_at k n (omega arith))
  where
    step : (k < n) ⊎ (k ≡ n) → (suc k < suc n) ⊎ (suc k ≡ suc n)
    step (inl h) = inl (omega arith)
    step (inr h) = inr (ap suc h)

-- the level of a job is by those of the jobs before it
level_of_first : (jobs : List Job) (n k : ℕ) → k < n
    → get_or (first_levels jobs n) k 0 ≡ level_after (first_levels jobs k) (after_of jobs k)
level_of_first jobs zero k below = absurd (omega arith)
level_of_first jobs (suc n) k below = by_place (below_or_at k n below) (level_of_first jobs n k)
  where
    next : ℕ
    next = level_after (first_levels jobs n) (after_of jobs n)

    count : length (first_levels jobs n) ≡ n
    count = length-levels jobs n

    by_place : (k < n) ⊎ (k ≡ n)
        → (k < n → get_or (first_levels jobs n) k 0 ≡ level_after (first_levels jobs k) (after_of jobs k))
        → get_or (first_levels jobs (suc n)) k 0 ≡ level_after (first_levels jobs k) (after_of jobs k)
    by_place (inl h) less =
        item_before (first_levels jobs n) (next ∷ []) k (omega (arith, count)) ∙ less h
    by_place (inr h) less =
        item_next (first_levels jobs n) next k (omega (arith, count))
        ∙ ap (λ m. level_after (first_levels jobs m) (after_of jobs m)) (sym h)

pub level_is : (jobs : List Job) (k : ℕ) → k < length jobs
    → job_level jobs k ≡ level_after (first_levels jobs k) (after_of jobs k)
level_is jobs k within = level_of_first jobs (length jobs) k within

-- the level after some jobs is above each of theirs
above_each : (levels after : List ℕ) → All (λ a. get_or levels a 0 < level_after levels after) after
above_each levels [] = All-nil (λ a. get_or levels a 0 < 0)
above_each levels (a ∷ after) =
    All-cons (λ b. get_or levels b 0 < level_after levels (a ∷ after)) a after (omega arith)
    (All-weaker (λ b. get_or levels b 0 < level_after levels after)
    (λ b. get_or levels b 0 < level_after levels (a ∷ after)) (λ b h. omega arith) after (above_each levels after))

-- what holds of each by two facts
pub both_hold : {X : Type 0} (P Q R : X → Type 0) → ((x : X) → P x → Q x → R x) → (xs : List X) → All P xs → All Q xs
    → All R xs
both_hold P Q R join [] ps qs = All-nil R
both_hold P Q R join (x ∷ xs) ps qs =
    All-cons R x xs (join x (All-head P x xs ps) (All-head Q x xs qs))
    (both_hold P Q R join xs (All-tail P x xs ps) (All-tail Q x xs qs))

-- so a job's own are of lower levels
pub levels_below : (jobs : List Job) (k : ℕ) → AreOrdered jobs → k < length jobs
    → All (λ a. job_level jobs a < job_level jobs k) (after_of jobs k)
levels_below jobs k ordered within =
    both_hold (λ a. a < k) (λ a. get_or (first_levels jobs k) a 0 < level_after (first_levels jobs k) (after_of jobs k))
    (λ a. job_level jobs a < job_level jobs k) lower (after_of jobs k) (ordered k)
    (above_each (first_levels jobs k) (after_of jobs k))
  where
    lower : (a : ℕ) → a < k → get_or (first_levels jobs k) a 0 < level_after (first_levels jobs k) (after_of jobs k)
        → job_level jobs a < job_level jobs k
    lower a below above =
        let same : job_level jobs a ≡ get_or (first_levels jobs k) a 0 =
        level_is jobs a (omega arith) ∙ sym (level_of_first jobs k a below) in
        let own : job_level jobs k ≡ level_after (first_levels jobs k) (after_of jobs k) = level_is jobs k within in
        omega arith

-- there are as many states
pub length-states : (jobs : List Job) (waves : List Wave) (n : ℕ) → length (first_states jobs waves n) ≡ n
length-states jobs waves zero = refl
length-states jobs waves (suc n) =
    length-append (first_states jobs waves n) (Some (job_state jobs waves (first_states jobs waves n) n) ∷ [])
    ∙ ap (λ m. m + 1) (length-states jobs waves n) ∙ add-one n

-- the state of a job is by those of the jobs before it
pub state_of_first : (jobs : List Job) (waves : List Wave) (n k : ℕ) → k < n
    → slice_get (first_states jobs waves n) k ≡ Some (Some (job_state jobs waves (first_states jobs waves k) k))
state_of_first jobs waves zero k below = absurd (omega arith)
state_of_first jobs waves (suc n) k below = by_place (below_or_at k n below) (state_of_first jobs waves n k)
  where
    states : List (Option JobState)
    states = first_states jobs waves n

    next : Option JobState
    next = Some (job_state jobs waves states n)

    count : length states ≡ n
    count = length-states jobs waves n

    by_place : (k < n) ⊎ (k ≡ n)
        → (k < n → slice_get states k ≡ Some (Some (job_state jobs waves (first_states jobs waves k) k)))
        → slice_get (first_states jobs waves (suc n)) k
        ≡ Some (Some (job_state jobs waves (first_states jobs waves k) k))
    by_place (inl h) less = read_before states (next ∷ []) k (omega (arith, count)) ∙ less h
    by_place (inr h) less =
        read_next states next k (omega (arith, count))
        ∙ ap (λ m. Some (Some (job_state jobs waves (first_states jobs waves m) m))) (sym h)

-- which of some jobs is the first that didn't pass is by what is known of them alone
pub unpassed_same : (s t : List (Option JobState)) (after : List ℕ) → All (λ a. job_passed s a ≡ job_passed t a) after
    → first_unpassed s after ≡ first_unpassed t after
unpassed_same s t [] same = refl
unpassed_same s t (a ∷ after) same =
    ap (λ b. cond b (first_unpassed s after) (Some a)) (All-head (λ a. job_passed s a ≡ job_passed t a) a after same)
    ∙ ap (λ o. cond (job_passed t a) o (Some a))
    (unpassed_same s t after (All-tail (λ a. job_passed s a ≡ job_passed t a) a after same))

-- whether two states lists say the same of the jobs that the jobs of a level wait for, as far as this one
abbrev pub AgreeAt : List Job → List (Option JobState) → List (Option JobState) → ℕ → Type 0
AgreeAt jobs s t k =
    (j : ℕ) → j ≤ k → job_level jobs j ≡ job_level jobs k → All (λ a. job_passed s a ≡ job_passed t a) (after_of jobs j)

-- then they say the same of the state of this job
pub ready_same : (jobs : List Job) (s t : List (Option JobState)) (j : ℕ)
    → All (λ a. job_passed s a ≡ job_passed t a) (after_of jobs j) → is_job_ready jobs s j ≡ is_job_ready jobs t j
ready_same jobs s t j same = ap is_none (unpassed_same s t (after_of jobs j) same)

pub filter_same : (p q : ℕ → Bool) (ks : List ℕ) → All (λ k. p k ≡ q k) ks → filter p ks ≡ filter q ks
filter_same p q [] same = refl
filter_same p q (k ∷ ks) same =
    ap (λ b. cond b (k ∷ filter p ks) (filter p ks)) (All-head (λ k. p k ≡ q k) k ks same)
    ∙ ap (λ rest. cond (q k) (k ∷ rest) rest) (filter_same p q ks (All-tail (λ k. p k ≡ q k) k ks same))

pub unit_same : (jobs : List Job) (s t : List (Option JobState)) (k : ℕ) → k < length jobs → AgreeAt jobs s t k
    → wave_unit jobs s k ≡ wave_unit jobs t k
unit_same jobs s t k within agree =
    ap length (filter_same (is_job_ready jobs s) (is_job_ready jobs t)
    (at_level (job_level jobs k) 0 (take k (levels_of jobs)))
    (All-weaker (λ j. (j < k) × (job_level jobs j ≡ job_level jobs k))
    (λ j. is_job_ready jobs s j ≡ is_job_ready jobs t j)
    (λ j h. ready_same jobs s t j (agree j (omega (arith, h.0)) h.1))
    (at_level (job_level jobs k) 0 (take k (levels_of jobs))) (places_before jobs (job_level jobs k) k (omega arith))))

pub state_same : (jobs : List Job) (waves : List Wave) (s t : List (Option JobState)) (k : ℕ) → k < length jobs
    → AgreeAt jobs s t k → job_state jobs waves s k ≡ job_state jobs waves t k
state_same jobs waves s t k within agree =
    ap (λ o. state_with o (slice_get waves (job_level jobs k)) (wave_unit jobs s k))
    (unpassed_same s t (after_of jobs k) (agree k (omega arith) refl))
    ∙ ap (state_with (first_unpassed t (after_of jobs k)) (slice_get waves (job_level jobs k)))
    (unit_same jobs s t k within agree)

-- the state of each job, by those of all
first_agree : (jobs : List Job) (waves : List Wave) (k : ℕ) → AreOrdered jobs → k < length jobs
    → AgreeAt jobs (first_states jobs waves k) (states_after jobs waves) k
first_agree jobs waves k ordered within j before same =
    All-weaker (λ a. a < j)
    (λ a. job_passed (first_states jobs waves k) a ≡ job_passed (states_after jobs waves) a) known (after_of jobs j)
    (ordered j)
  where
    known : (a : ℕ) → a < j → job_passed (first_states jobs waves k) a ≡ job_passed (states_after jobs waves) a
    known a below =
        ap has_state_passed (state_of_first jobs waves k a (omega arith)
        ∙ sym (state_of_first jobs waves (length jobs) a (omega arith)))

pub state_is : (jobs : List Job) (waves : List Wave) (k : ℕ) → AreOrdered jobs → k < length jobs
    → slice_get (states_after jobs waves) k ≡ Some (Some (job_state jobs waves (states_after jobs waves) k))
state_is jobs waves k ordered within =
    state_of_first jobs waves (length jobs) k within
    ∙ ap (λ state. Some (Some state))
    (state_same jobs waves (first_states jobs waves k) (states_after jobs waves) k within
    (first_agree jobs waves k ordered within))

-- waves that are the same below a level say the same of the jobs below it
abbrev pub SameBelow : ℕ → List Wave → List Wave → Type 0
SameBelow w waves others = (l : ℕ) → l < w → slice_get waves l ≡ slice_get others l

pub states_below : (jobs : List Job) (waves others : List Wave) (w n k : ℕ) → AreOrdered jobs → SameBelow w waves others
    → n ≤ length jobs → k < n → job_level jobs k < w
    → slice_get (first_states jobs waves n) k ≡ slice_get (first_states jobs others n) k
states_below jobs waves others w zero k ordered same within below low = absurd (omega arith)
states_below jobs waves others w (suc n) k ordered same within below low =
    by_place (below_or_at k n below)
    (λ j h l. states_below jobs waves others w n j ordered same (omega arith) h l)
  where
    s : List (Option JobState)
    s = first_states jobs waves n

    t : List (Option JobState)
    t = first_states jobs others n

    s_next : Option JobState
    s_next = Some (job_state jobs waves s n)

    t_next : Option JobState
    t_next = Some (job_state jobs others t n)

    s_count : length s ≡ n
    s_count = length-states jobs waves n

    t_count : length t ≡ n
    t_count = length-states jobs others n

    agree : ((j : ℕ) → j < n → job_level jobs j < w → slice_get s j ≡ slice_get t j) → job_level jobs n < w
        → AgreeAt jobs s t n
    agree less low j before level =
        both_hold (λ a. a < j) (λ a. job_level jobs a < job_level jobs j) (λ a. job_passed s a ≡ job_passed t a)
        (λ a below lower. ap has_state_passed (less a (omega arith) (omega arith))) (after_of jobs j) (ordered j)
        (levels_below jobs j ordered (omega arith))

    by_place : (k < n) ⊎ (k ≡ n) → ((j : ℕ) → j < n → job_level jobs j < w → slice_get s j ≡ slice_get t j)
        → slice_get (first_states jobs waves (suc n)) k ≡ slice_get (first_states jobs others (suc n)) k
    by_place (inl h) less =
        read_before s (s_next ∷ []) k (omega (arith, s_count)) ∙ less k h low
        ∙ sym (read_before t (t_next ∷ []) k (omega (arith, t_count)))
    by_place (inr h) less =
        let at : job_level jobs n < w = subst (λ m. job_level jobs m < w) h low in
        read_next s s_next k (omega (arith, s_count))
        ∙ ap Some (ap Some (state_same jobs waves s t n (omega arith) (agree less at)
        ∙ ap (λ o. state_with (first_unpassed t (after_of jobs n)) o (wave_unit jobs t n))
        (same (job_level jobs n) at)))
        ∙ sym (read_next t t_next k (omega (arith, t_count)))

-- states that are known of all jobs below a level say which jobs of it are ready
pub known_agree : (jobs : List Job) (waves : List Wave) (s : List (Option JobState)) (w j : ℕ) → AreOrdered jobs
    → AreKnown jobs waves s w → j < length jobs → job_level jobs j ≤ w
    → All (λ a. job_passed s a ≡ job_passed (states_after jobs waves) a) (after_of jobs j)
known_agree jobs waves s w j ordered known within level =
    both_hold (λ a. a < j) (λ a. job_level jobs a < job_level jobs j)
    (λ a. job_passed s a ≡ job_passed (states_after jobs waves) a)
    (λ a below lower. ap has_state_passed (known a (omega arith) (omega arith))) (after_of jobs j) (ordered j)
    (levels_below jobs j ordered within)

pub ready_known : (jobs : List Job) (waves : List Wave) (s : List (Option JobState)) (w : ℕ) → AreOrdered jobs
    → AreKnown jobs waves s w → ready_jobs jobs s w ≡ ready_jobs jobs (states_after jobs waves) w
ready_known jobs waves s w ordered known =
    filter_same (is_job_ready jobs s) (is_job_ready jobs (states_after jobs waves)) (at_level w 0 (levels_of jobs))
    (All-weaker (λ j. (j < length jobs) × (job_level jobs j ≡ w))
    (λ j. is_job_ready jobs s j ≡ is_job_ready jobs (states_after jobs waves) j)
    (λ j h. ready_same jobs s (states_after jobs waves) j
    (known_agree jobs waves s w j ordered known h.0 (omega (arith, h.1))))
    (at_level w 0 (levels_of jobs)) (places_all jobs w))

pub state_known : (jobs : List Job) (waves : List Wave) (s : List (Option JobState)) (k : ℕ) → AreOrdered jobs
    → AreKnown jobs waves s (job_level jobs k) → k < length jobs
    → slice_get (states_after jobs waves) k ≡ Some (Some (job_state jobs waves s k))
state_known jobs waves s k ordered known within =
    state_is jobs waves k ordered within
    ∙ ap (λ state. Some (Some state))
    (sym (state_same jobs waves s (states_after jobs waves) k within
    (λ j before level. known_agree jobs waves s (job_level jobs k) j ordered known (omega arith) (omega arith))))
