-- The jobs of a level are set one by one.
use Rattle.std.proofs.Common.{◌≡◌, ◌∙◌, ℕ, zero, suc, ◌+◌, ◌<◌, List, [], ◌∷◌, ◌++◌, length, take, drop, set}
use Rattle.std.proofs.Common.{get_or}
use Rattle.std.proofs.Common.{filter, Bool, true, false, cond, Option, Some, None, is_none, slice_get, refl}
use Rattle.std.proofs.Common.{sym, ap, subst}
use Rattle.std.proofs.Common.{arith, ◌⊎◌, inl, inr, length-append}
use Rattle.std.proofs.lemmas.List.{take_more, length-set}
use Rattle.std.proofs.lemmas.List.Elements.{filter-append}
use Rattle.run_jobs.specs.declared.job.Job.{Job}
use Rattle.run_jobs.specs.declared.job.JobState.{JobState}
use Rattle.run_jobs.specs.declared.ledger.Results.{Results}
use Rattle.run_jobs.specs.Jobs.{after_of}
use Rattle.run_jobs.specs.Levels.{AreOrdered, at_level, job_level, levels_of}
use Rattle.run_jobs.specs.Settled.{AreKnown, GivesResults, state_kept_with}
use Rattle.run_jobs.specs.States.{Wave, first_unpassed, has_state_passed, is_job_ready, job_passed, job_state}
use Rattle.run_jobs.specs.States.{state_with, states_after, wave_unit}
use Rattle.run_jobs.proofs.PlaceLemmas.{ascends, place_of_job}
use Rattle.run_jobs.proofs.StateLemmas.{both_hold, levels_below, state_known, unpassed_same, below_or_at}

-- what stands in a list after a write
pub read_written : {X : Type 0} (xs : List X) (k : ℕ) (x : X) → k < length xs → slice_get (set xs k x) k ≡ Some x
read_written [] k x below = absurd (omega arith)
read_written (y ∷ ys) zero x below = refl
read_written (y ∷ ys) (suc k) x below = read_written ys k x (omega arith)

pub read_other : {X : Type 0} (xs : List X) (k j : ℕ) (x : X) → (j ≡ k → ⊥) → slice_get (set xs k x) j ≡ slice_get xs j
read_other [] k j x other = refl
read_other (y ∷ ys) zero zero x other = absurd (other refl)
read_other (y ∷ ys) zero (suc j) x other = refl
read_other (y ∷ ys) (suc k) zero x other = refl
read_other (y ∷ ys) (suc k) (suc j) x other = read_other ys k j x (λ e. other (ap suc e))

-- the first i jobs of a level are set, and nothing else
pub record AreSet (jobs : List Job) (waves : List Wave) (w : ℕ) (s t : List (Option JobState)) (i unit : ℕ) : Type 0
  where
    pub kept : (k : ℕ) → (job_level jobs k ≡ w → ⊥) → slice_get t k ≡ slice_get s k
    pub count : unit ≡ length (filter (is_job_ready jobs s) (take i (at_level w 0 (levels_of jobs))))
    pub done : (m : ℕ) → m < i
        → slice_get t (get_or (at_level w 0 (levels_of jobs)) m 0)
        ≡ Some (Some (job_state jobs waves s (get_or (at_level w 0 (levels_of jobs)) m 0)))
    pub same : length t ≡ length s

pub none_set : (jobs : List Job) (waves : List Wave) (w : ℕ) (s : List (Option JobState)) → AreSet jobs waves w s s 0 0
none_set jobs waves w s = record {
  kept = λ k other. refl;
  count = refl;
  done = λ m below. absurd (omega arith);
  same = refl;
}

-- the job at a place of its level stands after those that come before it
seam : (xs ys : List ℕ) (k : ℕ) → (get_or (xs ++ k ∷ ys) (length xs) 0 ≡ k) × (take (length xs) (xs ++ k ∷ ys) ≡ xs)
seam [] ys k = (refl, refl)
seam (x ∷ xs) ys k = ((seam xs ys k).0, ap (λ zs. x ∷ zs) (seam xs ys k).1)

within_seam : (xs ys : List ℕ) (k : ℕ) → length xs < length (xs ++ k ∷ ys)
within_seam xs ys k = omega (arith, length-append xs (k ∷ ys))

-- two numbers in their order
in_order_of : (m i : ℕ) → (m < i) ⊎ ((m ≡ i) ⊎ (i < m))
in_order_of zero zero = inr (inl refl)
in_order_of zero (suc i) = inl (omega arith)
in_order_of (suc m) zero = inr (inr (omega arith))
in_order_of (suc m) (suc i) = step (in_order_of m i)
  where
    step : (m < i) ⊎ ((m ≡ i) ⊎ (i < m)) → (suc m < suc i) ⊎ ((suc m ≡ suc i) ⊎ (suc i < suc m))
    step (inl h) = inl (omega arith)
    step (inr (inl h)) = inr (inl (ap suc h))
    step (inr (inr h)) = inr (inr (omega arith))

one_place : (w : ℕ) (levels : List ℕ) (i m k : ℕ) → i < length (at_level w 0 levels) → m < length (at_level w 0 levels)
    → get_or (at_level w 0 levels) i 0 ≡ k → get_or (at_level w 0 levels) m 0 ≡ k → m ≡ i
one_place w levels i m k i_in m_in at_i at_m = by_order (in_order_of m i)
  where
    by_order : (m < i) ⊎ ((m ≡ i) ⊎ (i < m)) → m ≡ i
    by_order (inl h) = absurd (omega (arith, ascends w 0 levels m i h i_in, at_i, at_m))
    by_order (inr (inl h)) = h
    by_order (inr (inr h)) = absurd (omega (arith, ascends w 0 levels i m h m_in, at_i, at_m))

-- where a job stands in its level
pub job_place : (jobs : List Job) (k : ℕ) → k < length jobs
    → (length (at_level (job_level jobs k) 0 (take k (levels_of jobs)))
    < length (at_level (job_level jobs k) 0 (levels_of jobs)))
    × (get_or (at_level (job_level jobs k) 0 (levels_of jobs))
    (length (at_level (job_level jobs k) 0 (take k (levels_of jobs)))) 0 ≡ k)
    × (take (length (at_level (job_level jobs k) 0 (take k (levels_of jobs))))
    (at_level (job_level jobs k) 0 (levels_of jobs)) ≡ at_level (job_level jobs k) 0 (take k (levels_of jobs)))
job_place jobs k within =
    let before : List ℕ = at_level (job_level jobs k) 0 (take k (levels_of jobs)) in
    let after : List ℕ = at_level (job_level jobs k) (suc k) (drop (suc k) (levels_of jobs)) in
    let all : List ℕ = at_level (job_level jobs k) 0 (levels_of jobs) in
    let is : all ≡ before ++ k ∷ after = place_of_job jobs k within in (
      subst (λ xs. length before < length xs) (sym is) (within_seam before after k),
      ap (λ xs. get_or xs (length before) 0) is ∙ (seam before after k).0,
      ap (take (length before)) is ∙ (seam before after k).1,
    )

pub before_place : (jobs : List Job) (i k : ℕ) → k < length jobs
    → i < length (at_level (job_level jobs k) 0 (levels_of jobs))
    → get_or (at_level (job_level jobs k) 0 (levels_of jobs)) i 0 ≡ k
    → take i (at_level (job_level jobs k) 0 (levels_of jobs)) ≡ at_level (job_level jobs k) 0 (take k (levels_of jobs))
before_place jobs i k within i_in at =
    let place = job_place jobs k within in
    let same = one_place (job_level jobs k) (levels_of jobs) i
    (length (at_level (job_level jobs k) 0 (take k (levels_of jobs)))) k i_in place.0 at place.1 in
    ap (λ n. take n (at_level (job_level jobs k) 0 (levels_of jobs))) (sym same) ∙ place.2

-- the state by results is that by waves
kept_state : (results : Option Results) (waves : List Wave) (w unit : ℕ) (o : Option ℕ) → GivesResults results waves w
    → state_kept_with o results unit ≡ state_with o (slice_get waves w) unit
kept_state results waves w unit (Some a) gives = refl
kept_state results waves w unit None gives = gives unit

counted : (b : Bool) (unit k : ℕ) → cond b (unit + 1) unit ≡ unit + length (cond b (k ∷ []) [])
counted true unit k = omega arith
counted false unit k = omega arith

filtered : (p : ℕ → Bool) (k : ℕ) → filter p (k ∷ []) ≡ cond (p k) (k ∷ []) []
filtered p k = refl

-- one more job is set
pub set_one : (jobs : List Job) (waves : List Wave) (w : ℕ) (s t : List (Option JobState)) (i unit k : ℕ)
    (unpassed : Option ℕ) (results : Option Results) (state : JobState) (next : ℕ) → AreOrdered jobs
    → length s ≡ length jobs → GivesResults results waves w → i < length (at_level w 0 (levels_of jobs))
    → k ≡ get_or (at_level w 0 (levels_of jobs)) i 0 → k < length jobs → job_level jobs k ≡ w
    → unpassed ≡ first_unpassed t (after_of jobs k) → state ≡ state_kept_with unpassed results unit
    → next ≡ cond (is_none unpassed) (unit + 1) unit → AreSet jobs waves w s t i unit
    → AreSet jobs waves w s (set t k (Some state)) (i + 1) next
set_one jobs waves w s t i unit k unpassed results state next ordered all gives i_in is within level
    unpassed_is state_is
    next_is sets = record {
      kept = λ j other. read_other t k j (Some state) (λ e. other (ap (job_level jobs) e ∙ level)) ∙ sets.kept j other;
      count = count;
      done = λ m below. by_place m (below_or_at m i (omega arith));
      same = length-set t k (Some state) ∙ sets.same;
    }
  where
    places : List ℕ
    places = at_level w 0 (levels_of jobs)

    unpassed_s : unpassed ≡ first_unpassed s (after_of jobs k)
    unpassed_s = unpassed_is ∙ unpassed_same t s (after_of jobs k)
        (both_hold (λ a. a < k) (λ a. job_level jobs a < job_level jobs k) (λ a. job_passed t a ≡ job_passed s a)
        (λ a low lower. ap has_state_passed (sets.kept a (λ e. absurd (omega (arith, lower, e, level)))))
        (after_of jobs k) (ordered k) (levels_below jobs k ordered within))

    unit_is : unit ≡ wave_unit jobs s k
    unit_is = sets.count ∙ ap (λ ks. length (filter (is_job_ready jobs s) ks)) (by_level w level i_in (sym is))
      where
        by_level : (v : ℕ) → job_level jobs k ≡ v → i < length (at_level v 0 (levels_of jobs))
            → get_or (at_level v 0 (levels_of jobs)) i 0 ≡ k
            → take i (at_level v 0 (levels_of jobs)) ≡ at_level (job_level jobs k) 0 (take k (levels_of jobs))
        by_level v e = subst (λ v. i < length (at_level v 0 (levels_of jobs))
            → get_or (at_level v 0 (levels_of jobs)) i 0 ≡ k
            → take i (at_level v 0 (levels_of jobs)) ≡ at_level (job_level jobs k) 0 (take k (levels_of jobs)))
            e (before_place jobs i k within)

    whole : state ≡ job_state jobs waves s k
    whole = state_is ∙ kept_state results waves w unit unpassed gives
        ∙ ap (λ o. state_with o (slice_get waves w) unit) unpassed_s
        ∙ ap (λ v. state_with (first_unpassed s (after_of jobs k)) (slice_get waves v) unit) (sym level)
        ∙ ap (state_with (first_unpassed s (after_of jobs k)) (slice_get waves (job_level jobs k))) unit_is

    count : next ≡ length (filter (is_job_ready jobs s) (take (i + 1) places))
    count = next_is ∙ counted (is_none unpassed) unit k
        ∙ ap (λ n. n + length (cond (is_none unpassed) (k ∷ []) [])) sets.count
        ∙ ap (λ o. length (filter (is_job_ready jobs s) (take i places)) + length (cond (is_none o) (k ∷ []) []))
        unpassed_s
        ∙ sym (length-append (filter (is_job_ready jobs s) (take i places)) (filter (is_job_ready jobs s) (k ∷ [])))
        ∙ ap length (sym (filter-append (is_job_ready jobs s) (take i places) (k ∷ [])))
        ∙ ap (λ j. length (filter (is_job_ready jobs s) (take i places ++ j ∷ []))) is
        ∙ ap (λ ks. length (filter (is_job_ready jobs s) ks)) (sym (take_more places i 0 i_in))

    by_place : (m : ℕ) → (m < i) ⊎ (m ≡ i)
        → slice_get (set t k (Some state)) (get_or places m 0) ≡ Some (Some (job_state jobs waves s (get_or
        places m 0)))
    by_place m (inl h) =
        read_other t k (get_or places m 0) (Some state)
        (λ e. absurd (omega (arith, ascends w 0 (levels_of jobs) m i h i_in, e, is)))
        ∙ sets.done m h
    by_place m (inr h) =
        subst (λ j. slice_get (set t k (Some state)) j ≡ Some (Some (job_state jobs waves s j)))
        (is ∙ ap (λ n. get_or places n 0) (sym h))
        (read_written t k (Some state) (omega (arith, within, all, sets.same))
        ∙ ap (λ o. Some (Some o)) whole)

-- once all are, the states of the level are known
known_here : (jobs : List Job) (waves : List Wave) (s t : List (Option JobState)) (k unit : ℕ) → AreOrdered jobs
    → k < length jobs → AreKnown jobs waves s (job_level jobs k)
    → AreSet jobs waves (job_level jobs k) s t (length (at_level (job_level jobs k) 0 (levels_of jobs))) unit
    → slice_get t k ≡ slice_get (states_after jobs waves) k
known_here jobs waves s t k unit ordered within known sets =
    let place = job_place jobs k within in
    subst (λ j. slice_get t j ≡ Some (Some (job_state jobs waves s j))) place.1 (sets.done _ place.0)
    ∙ sym (state_known jobs waves s k ordered known within)

pub all_known : (jobs : List Job) (waves : List Wave) (w : ℕ) (s t : List (Option JobState)) (i unit : ℕ)
    → AreOrdered jobs → i ≡ length (at_level w 0 (levels_of jobs)) → AreKnown jobs waves s w
    → AreSet jobs waves w s t i unit → AreKnown jobs waves t (w + 1)
all_known jobs waves w s t i unit ordered all known sets k within low =
    by_level (below_or_at (job_level jobs k) w (omega arith))
  where
    by_level : (job_level jobs k < w) ⊎ (job_level jobs k ≡ w) → slice_get t k ≡ slice_get (states_after jobs waves) k
    by_level (inl h) = sets.kept k (λ e. absurd (omega (arith, h, e))) ∙ known k within h
    by_level (inr h) =
        known_here jobs waves s t k unit ordered within (subst (AreKnown jobs waves s) (sym h) known)
        (subst (λ v. AreSet jobs waves v s t (length (at_level v 0 (levels_of jobs))) unit) (sym h)
        (subst (λ n. AreSet jobs waves w s t n unit) all sets))
