-- How many tests run, after one more event.
use Rattle.std.proofs.Common.{◌≡◌, ◌≢◌, ℕ, zero, suc, ◌+◌, ◌<◌, ◌≤◌, ◌==◌, List, [], ◌∷◌, ◌++◌, ◌||◌, Bool, true}
use Rattle.std.proofs.Common.{false, cond, not, count_by, refl, ap, sym, ◌∙◌, arith}
use Rattle.std.specs.Cmp.{first_so}
use Rattle.std.specs.List.{range_with_len, list_any}
use Rattle.std.proofs.lemmas.List.Sums.{sum_by-cons}
use Rattle.std.proofs.lemmas.List.Folds.{list_any-append}
use Rattle.std.proofs.lemmas.Grind.{common_steps}
use Rattle.run_events.specs.declared.events.ReporterEvent.{ReporterEvent}
use Rattle.run_model.specs.Words.{starts, finishes, is_running}
use Rattle.run_events.specs.declared.result.ExecuteStatus.{ExecuteStatus}
use Rattle.run_model.specs.Accounts.{News, started, failed, finished, tried, tried_from, account_of}
use Rattle.run_admission.proofs.FreeLemmas.{count-cons}

-- two tests that agree on a range count alike
pub count-same : (f g : ℕ → Bool) (n a : ℕ) → ((k : ℕ) → a ≤ k → k < a + n → g k ≡ f k)
    → count_by g (range_with_len a n) ≡ count_by f (range_with_len a n)
count-same f g zero a same = refl
count-same f g (suc n) a same =
    count-cons g a n
    ∙ ap (λ b. cond b 1 0 + count_by g (range_with_len (a + 1) n)) (same a (omega arith) (omega arith))
    ∙ ap (λ m. cond (f a) 1 0 + m) (count-same f g n (a + 1) (λ k low high. same k (omega arith) (omega arith)))
    ∙ sym (count-cons f a n)

-- one more member counts one more
pub count-more : (f g : ℕ → Bool) (n a i : ℕ) → a ≤ i → i < a + n → f i ≡ false → g i ≡ true
    → ((k : ℕ) → k ≢ i → g k ≡ f k)
    → count_by g (range_with_len a n) ≡ count_by f (range_with_len a n) + 1
count-more f g zero a i low high was is same = absurd (omega arith)
count-more f g (suc n) a i low high was is same =
    by_part (a == i) refl (λ apart. count-more f g n (a + 1) i (omega arith) (omega arith) was is same)
  where
    by_part : (b : Bool) → (a == i) ≡ b
        → (a ≢ i → count_by g (range_with_len (a + 1) n) ≡ count_by f (range_with_len (a + 1) n) + 1)
        → count_by g (range_with_len a (suc n)) ≡ count_by f (range_with_len a (suc n)) + 1
    by_part true e later =
        let here : a ≡ i = grind arith in
        let ga : g a ≡ true = ap g here ∙ is in
        let fa : f a ≡ false = ap f here ∙ was in
        let rest : count_by g (range_with_len (a + 1) n) ≡ count_by f (range_with_len (a + 1) n) =
        count-same f g n (a + 1) (λ k low high. same k (omega arith)) in
        let left : count_by g (range_with_len a (suc n)) ≡ 1 + count_by g (range_with_len (a + 1) n) =
        count-cons g a n ∙ ap (λ b. cond b 1 0 + count_by g (range_with_len (a + 1) n)) ga in
        let right : count_by f (range_with_len a (suc n)) ≡ 0 + count_by f (range_with_len (a + 1) n) =
        count-cons f a n ∙ ap (λ b. cond b 1 0 + count_by f (range_with_len (a + 1) n)) fa in
        omega arith
    by_part false e later =
        let apart : a ≢ i = grind arith in
        let rest : count_by g (range_with_len (a + 1) n) ≡ count_by f (range_with_len (a + 1) n) + 1 =
        later apart in
        let left : count_by g (range_with_len a (suc n)) ≡ cond (f a) 1 0 + count_by g (range_with_len (a + 1) n) =
        count-cons g a n ∙ ap (λ b. cond b 1 0 + count_by g (range_with_len (a + 1) n)) (same a apart) in
        let right : count_by f (range_with_len a (suc n)) ≡ cond (f a) 1 0 + count_by f (range_with_len (a + 1) n) =
        count-cons f a n in
        omega arith

-- whether news tell a start, or a finish
abbrev pub is_start : News → Bool
is_start started = true
is_start _ = false

abbrev pub is_finish : News → Bool
is_finish (finished statuses) = true
is_finish _ = false

-- what is told of a test says whether it was told started, and whether it was told finished
starts-one : (k : ℕ) (e : ReporterEvent) (es : List ReporterEvent)
    → list_any (starts k) es ≡ list_any is_start (account_of k es)
    → list_any (starts k) (e ∷ es) ≡ list_any is_start (account_of k (e ∷ es))
starts-one k e es h = grind (arith, common_steps)

pub starts-account : (k : ℕ) (es : List ReporterEvent) → list_any (starts k) es ≡ list_any is_start (account_of k es)
starts-account k [] = refl
starts-account k (e ∷ es) = starts-one k e es (starts-account k es)

finishes-one : (k : ℕ) (e : ReporterEvent) (es : List ReporterEvent)
    → list_any (finishes k) es ≡ list_any is_finish (account_of k es)
    → list_any (finishes k) (e ∷ es) ≡ list_any is_finish (account_of k (e ∷ es))
finishes-one k e es h = grind (arith, common_steps)

pub finishes-account : (k : ℕ) (es : List ReporterEvent)
    → list_any (finishes k) es ≡ list_any is_finish (account_of k es)
finishes-account k [] = refl
finishes-account k (e ∷ es) = finishes-one k e es (finishes-account k es)

-- an event that neither starts nor finishes a test leaves it as it was
pub running-other : (k : ℕ) (es : List ReporterEvent) (e : ReporterEvent) → starts k e ≡ false → finishes k e ≡ false
    → is_running (es ++ e ∷ []) k ≡ is_running es k
running-other k es e s f = simp (list_any-append, s, f) (grind (arith, common_steps))

-- how many of n units from one on run, by what was told
abbrev pub running_in_told : ℕ → ℕ → List ReporterEvent → ℕ
running_in_told a n es = count_by (is_running es) (range_with_len a n)

-- a told start is of one unit more
pub running-started : (a n i : ℕ) (es : List ReporterEvent) (e : ReporterEvent) → a ≤ i → i < a + n
    → account_of i es ≡ []
    → ((k : ℕ) → starts k e ≡ (i == k)) → ((k : ℕ) → finishes k e ≡ false)
    → running_in_told a n (es ++ e ∷ []) ≡ running_in_told a n es + 1
running-started a n i es e above below none s f =
    count-more (is_running es) (is_running (es ++ e ∷ [])) n a i above below was is
    (λ k apart. running-other k es e (s k ∙ apart_from k apart) (f k))
  where
    apart_from : (k : ℕ) → k ≢ i → (i == k) ≡ false
    apart_from k apart = grind arith

    no_start : list_any (starts i) es ≡ false
    no_start = starts-account i es ∙ ap (list_any is_start) none

    no_finish : list_any (finishes i) es ≡ false
    no_finish = finishes-account i es ∙ ap (list_any is_finish) none

    was : is_running es i ≡ false
    was = rw no_start refl

    here : (i == i) ≡ true
    here = grind arith

    is : is_running (es ++ e ∷ []) i ≡ true
    is = simp (list_any-append, no_start, no_finish, s, f, here) refl

-- a told finish is of one unit less
pub running-finished : (a n i : ℕ) (es : List ReporterEvent) (e : ReporterEvent) → a ≤ i → i < a + n
    → is_running es i ≡ true
    → ((k : ℕ) → finishes k e ≡ (i == k)) → ((k : ℕ) → starts k e ≡ false)
    → running_in_told a n es ≡ running_in_told a n (es ++ e ∷ []) + 1
running-finished a n i es e above below was f s =
    count-more (is_running (es ++ e ∷ [])) (is_running es) n a i above below is was
    (λ k apart. sym (running-other k es e (s k) (f k ∙ apart_from k apart)))
  where
    apart_from : (k : ℕ) → k ≢ i → (i == k) ≡ false
    apart_from k apart = grind arith

    a_start : list_any (starts i) es ≡ true
    a_start = first_so (list_any (starts i) es) (not (list_any (finishes i) es)) was

    here : (i == i) ≡ true
    here = grind arith

    is : is_running (es ++ e ∷ []) i ≡ false
    is = simp (list_any-append, a_start, s, f, here) (ends (list_any (finishes i) es))
      where
        ends : (b : Bool) → not (b || true) ≡ false
        ends true = refl
        ends false = refl

-- a test of which this was told runs: that it started, and then no finish
pub runs-account : (k : ℕ) (es : List ReporterEvent) (ns : List News) → account_of k es ≡ started ∷ ns
    → list_any is_finish ns ≡ false → is_running es k ≡ true
runs-account k es ns told none =
    rw (
      starts-account k es ∙ ap (list_any is_start) told,
      finishes-account k es ∙ ap (list_any is_finish) told ∙ none,
    ) refl

-- what is told of attempts that a further one follows is no finish
pub tried_from-unfinished : (n : ℕ) (ss : List ExecuteStatus) → list_any is_finish (tried_from n ss) ≡ false
tried_from-unfinished n [] = refl
tried_from-unfinished n (s ∷ ss) = tried_from-unfinished (n + 1) ss

pub tried-unfinished : (ss : List ExecuteStatus) → list_any is_finish (tried ss) ≡ false
tried-unfinished ss = tried_from-unfinished 1 ss

pub failing-unfinished : (ss : List ExecuteStatus) (s : ExecuteStatus)
    → list_any is_finish (tried ss ++ failed s ∷ []) ≡ false
failing-unfinished ss s =
    list_any-append is_finish (tried ss) (failed s ∷ []) ∙ ap (λ b. b || false) (tried-unfinished ss)

-- an event of no unit among these leaves the number as it was
pub running-apart : (a n : ℕ) (es : List ReporterEvent) (e : ReporterEvent)
    → ((k : ℕ) → a ≤ k → k < a + n → (starts k e ≡ false) × (finishes k e ≡ false))
    → running_in_told a n (es ++ e ∷ []) ≡ running_in_told a n es
running-apart a n es e apart = count-same (is_running es) (is_running (es ++ e ∷ [])) n a
    (λ k low high. let none = apart k low high in running-other k es e none.0 none.1)

-- and so does any other event
pub running-kept : (a n : ℕ) (es : List ReporterEvent) (e : ReporterEvent)
    → ((k : ℕ) → starts k e ≡ false) → ((k : ℕ) → finishes k e ≡ false)
    → running_in_told a n (es ++ e ∷ []) ≡ running_in_told a n es
running-kept a n es e s f = running-apart a n es e (λ k low high. (s k, f k))
