-- The jobs of a level, in order.
use Rattle.std.proofs.Common.{◌≡◌, ◌∙◌, ℕ, zero, suc, ◌+◌, ◌-◌, ◌<◌, ◌≤◌, List, [], ◌∷◌, ◌++◌, length, take, drop}
use Rattle.std.proofs.Common.{get_or}
use Rattle.std.proofs.Common.{Bool, true, false, cond, ◌==◌, refl, sym, ap, arith}
use Rattle.std.proofs.Common.{drop-cons}
use Rattle.std.specs.List.{All}
use Rattle.std.proofs.Common.{get_or-take}
use Rattle.std.proofs.lemmas.List.{length-take-le, take-append-drop}
use Rattle.std.proofs.lemmas.List.Elements.{All-nil, All-cons, All-get_or, All-weaker}
use Rattle.run_jobs.specs.declared.job.Job.{Job}
use Rattle.run_jobs.specs.Levels.{at_level, job_level, levels_of}
use Rattle.run_jobs.proofs.LevelLemmas.{count_levels}

-- a place of a list that begins at a number, at which this level stands
abbrev pub StandsAt : ℕ → ℕ → List ℕ → ℕ → Type 0
StandsAt w b levels j = (b ≤ j) × (j < b + length levels) × (get_or levels (j - b) 0 ≡ w)

further : (w b l : ℕ) (levels : List ℕ) (j : ℕ) → StandsAt w (suc b) levels j → StandsAt w b (l ∷ levels) j
further w b l levels j h =
    let low : suc b ≤ j = h.0 in
    let high : j < suc b + length levels = h.1 in
    let next : j - b ≡ suc (j - suc b) = omega arith in
    (omega arith, omega arith, ap (λ n. get_or (l ∷ levels) n 0) next ∙ h.2)

stand_more : (w b l : ℕ) (levels : List ℕ) → All (StandsAt w (suc b) levels) (at_level w (suc b) levels)
    → All (StandsAt w b (l ∷ levels)) (at_level w b (l ∷ levels))
stand_more w b l levels rest = by_test (l == w) refl
  where
    later : All (StandsAt w b (l ∷ levels)) (at_level w (suc b) levels)
    later = All-weaker (StandsAt w (suc b) levels) (StandsAt w b (l ∷ levels)) (further w b l levels)
        (at_level w (suc b) levels) rest

    by_test : (t : Bool) → (l == w) ≡ t
        → All (StandsAt w b (l ∷ levels)) (cond t (b ∷ at_level w (suc b) levels) (at_level w (suc b) levels))
    by_test true at =
        let same : l ≡ w = grind (arith, at) in
        let none : b - b ≡ 0 = omega arith in
        All-cons (StandsAt w b (l ∷ levels)) b (at_level w (suc b) levels)
        (omega arith, omega arith, ap (λ n. get_or (l ∷ levels) n 0) none ∙ same) later
    by_test false at = later

stand : (w b : ℕ) (levels : List ℕ) → All (StandsAt w b levels) (at_level w b levels)
stand w b [] = All-nil (StandsAt w b [])
stand w b (l ∷ levels) = stand_more w b l levels (stand w (suc b) levels)

-- each of them is a job of the level
pub places_all : (jobs : List Job) (w : ℕ)
    → All (λ j. (j < length jobs) × (job_level jobs j ≡ w)) (at_level w 0 (levels_of jobs))
places_all jobs w =
    All-weaker (StandsAt w 0 (levels_of jobs)) (λ j. (j < length jobs) × (job_level jobs j ≡ w)) read
    (at_level w 0 (levels_of jobs)) (stand w 0 (levels_of jobs))
  where
    read : (j : ℕ) → StandsAt w 0 (levels_of jobs) j → (j < length jobs) × (job_level jobs j ≡ w)
    read j h =
        let count : length (levels_of jobs) ≡ length jobs = count_levels jobs in
        let high : j < 0 + length (levels_of jobs) = h.1 in
        let same : j - 0 ≡ j = omega arith in
        (omega arith, ap (λ n. get_or (levels_of jobs) n 0) (sym same) ∙ h.2)

pub places_before : (jobs : List Job) (w k : ℕ) → k ≤ length jobs
    → All (λ j. (j < k) × (job_level jobs j ≡ w)) (at_level w 0 (take k (levels_of jobs)))
places_before jobs w k within =
    All-weaker (StandsAt w 0 (take k (levels_of jobs))) (λ j. (j < k) × (job_level jobs j ≡ w)) read
    (at_level w 0 (take k (levels_of jobs))) (stand w 0 (take k (levels_of jobs)))
  where
    all : length (levels_of jobs) ≡ length jobs
    all = count_levels jobs

    count : length (take k (levels_of jobs)) ≡ k
    count = length-take-le k (levels_of jobs) (omega (arith, all))

    read : (j : ℕ) → StandsAt w 0 (take k (levels_of jobs)) j → (j < k) × (job_level jobs j ≡ w)
    read j h =
        let high : j < 0 + length (take k (levels_of jobs)) = h.1 in
        let below : j < k = omega (arith, count) in
        let same : j - 0 ≡ j = omega arith in (
          below,
          sym (get_or-take k (levels_of jobs) j 0 below)
              ∙ ap (λ n. get_or (take k (levels_of jobs)) n 0) (sym same) ∙ h.2,
        )

-- those of two lists
pub at_level-append : (w b : ℕ) (ls ms : List ℕ)
    → at_level w b (ls ++ ms) ≡ at_level w b ls ++ at_level w (b + length ls) ms
at_level-append w b [] ms = ap (λ n. at_level w n ms) same
  where
    same : b ≡ b + 0
    same = omega arith
at_level-append w b (l ∷ ls) ms = by_test (l == w) (at_level-append w (suc b) ls ms)
  where
    moved : suc b + length ls ≡ b + suc (length ls)
    moved = omega arith

    by_test : (t : Bool)
        → at_level w (suc b) (ls ++ ms) ≡ at_level w (suc b) ls ++ at_level w (suc b + length ls) ms
        → cond t (b ∷ at_level w (suc b) (ls ++ ms)) (at_level w (suc b) (ls ++ ms))
        ≡ cond t (b ∷ at_level w (suc b) ls) (at_level w (suc b) ls) ++ at_level w (b + suc (length ls)) ms
    by_test true less = ap (λ ks. b ∷ ks) (less ∙ ap (λ n. at_level w (suc b) ls ++ at_level w n ms) moved)
    by_test false less = less ∙ ap (λ n. at_level w (suc b) ls ++ at_level w n ms) moved

-- they ascend
ascends_more : (w b l : ℕ) (levels : List ℕ)
    → ((m i : ℕ) → m < i → i < length (at_level w (suc b) levels)
    → get_or (at_level w (suc b) levels) m 0 < get_or (at_level w (suc b) levels) i 0)
    → (m i : ℕ) → m < i → i < length (at_level w b (l ∷ levels))
    → get_or (at_level w b (l ∷ levels)) m 0 < get_or (at_level w b (l ∷ levels)) i 0
ascends_more w b l levels less m i before within = by_test (l == w) m i before within
  where
    rest : List ℕ
    rest = at_level w (suc b) levels

    by_test : (t : Bool) (m i : ℕ) → m < i → i < length (cond t (b ∷ rest) rest)
        → get_or (cond t (b ∷ rest) rest) m 0 < get_or (cond t (b ∷ rest) rest) i 0
    by_test false m i before within = less m i before within
    by_test true m zero before within = absurd (omega arith)
    by_test true zero (suc i) before within =
        let there : StandsAt w (suc b) levels (get_or rest i 0) =
        All-get_or (StandsAt w (suc b) levels) rest i 0 (omega arith) (stand w (suc b) levels) in
        there.0
    by_test true (suc m) (suc i) before within = less m i (omega arith) (omega arith)

pub ascends : (w b : ℕ) (levels : List ℕ) (m i : ℕ) → m < i → i < length (at_level w b levels)
    → get_or (at_level w b levels) m 0 < get_or (at_level w b levels) i 0
ascends w b [] m i before within = absurd (omega arith)
ascends w b (l ∷ levels) m i before within =
    ascends_more w b l levels (ascends w (suc b) levels) m i before within

-- a job of a level stands among those of its level after those that come before it
pub place_of_job : (jobs : List Job) (k : ℕ) → k < length jobs
    → at_level (job_level jobs k) 0 (levels_of jobs)
    ≡ at_level (job_level jobs k) 0 (take k (levels_of jobs))
    ++ k ∷ at_level (job_level jobs k) (suc k) (drop (suc k) (levels_of jobs))
place_of_job jobs k within =
    ap (at_level w 0) (sym (take-append-drop k levels))
    ∙ at_level-append w 0 (take k levels) (drop k levels)
    ∙ ap (λ ms. before ++ at_level w (0 + length (take k levels)) ms) (drop-cons levels k 0 inside)
    ∙ ap (λ n. before ++ at_level w n (w ∷ drop (suc k) levels)) here
    ∙ ap (λ t. before ++ cond t (k ∷ at_level w (suc k) (drop (suc k) levels))
    (at_level w (suc k) (drop (suc k) levels))) same
  where
    levels : List ℕ
    levels = levels_of jobs

    w : ℕ
    w = job_level jobs k

    before : List ℕ
    before = at_level w 0 (take k levels)

    inside : k < length levels
    inside = omega (arith, count_levels jobs)

    here : 0 + length (take k levels) ≡ k
    here = omega (arith, length-take-le k levels (omega (arith, inside)))

    same : (w == w) ≡ true
    same = grind arith
