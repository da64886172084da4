-- How many starts, finishes and skips are in what is told of a unit.
use Rattle.std.proofs.Common.{◌≡◌, ℕ, zero, suc, ◌+◌, List, [], ◌∷◌, ◌++◌, map, Bool, true, false, cond, not, ◌&&◌}
use Rattle.std.proofs.Common.{Option, Some, None, option_to_list, count_by, refl, ap, ◌∙◌, arith}
use Rattle.std.proofs.lemmas.Grind.{common_steps}
use Rattle.std.proofs.lemmas.List.Sums.{sum_by-append, sum_by-cons}
use Rattle.run_events.specs.Stats.{one_if}
use Rattle.run_events.specs.declared.events.ReporterEvent.{ReporterEvent}
use Rattle.run_events.specs.declared.result.ExecuteStatus.{ExecuteStatus}
use Rattle.run_model.specs.Accounts.{News, account_of, failed, finished}
use Rattle.run_model.specs.Accounts.{retried, skipped, started, tried, tried_from}
use Rattle.run_model.specs.Fates.{account, but_last, failures, retold}
use Rattle.run_model.specs.Story.{is_at_retry, is_at_start}
use Rattle.run_model.specs.Ending.{last_status}
use Rattle.run_model.specs.Words.{finishes, starts}
use Rattle.run_laws.proofs.told.Running.{is_finish, is_start}
use Rattle.run_laws_calls.specs.Counts.{finishes_told, skips_told, skips_unit, starts_told}

-- whether news tell a skip
abbrev pub is_skip_news : News → Bool
is_skip_news skipped = true
is_skip_news _ = false

-- what is told of a unit says how often it was told started, finished and skipped
starts-one : (k : ℕ) (e : ReporterEvent) (es : List ReporterEvent)
    → count_by (starts k) es ≡ count_by is_start (account_of k es)
    → count_by (starts k) (e ∷ es) ≡ count_by is_start (account_of k (e ∷ es))
starts-one k e es h = grind (arith, common_steps)

pub starts-news : (k : ℕ) (es : List ReporterEvent) → starts_told k es ≡ count_by is_start (account_of k es)
starts-news k [] = refl
starts-news k (e ∷ es) = starts-one k e es (starts-news k es)

finishes-one : (k : ℕ) (e : ReporterEvent) (es : List ReporterEvent)
    → count_by (finishes k) es ≡ count_by is_finish (account_of k es)
    → count_by (finishes k) (e ∷ es) ≡ count_by is_finish (account_of k (e ∷ es))
finishes-one k e es h = grind (arith, common_steps)

pub finishes-news : (k : ℕ) (es : List ReporterEvent) → finishes_told k es ≡ count_by is_finish (account_of k es)
finishes-news k [] = refl
finishes-news k (e ∷ es) = finishes-one k e es (finishes-news k es)

skips-one : (k : ℕ) (e : ReporterEvent) (es : List ReporterEvent)
    → count_by (skips_unit k) es ≡ count_by is_skip_news (account_of k es)
    → count_by (skips_unit k) (e ∷ es) ≡ count_by is_skip_news (account_of k (e ∷ es))
skips-one k e es h = grind (arith, common_steps)

pub skips-news : (k : ℕ) (es : List ReporterEvent) → skips_told k es ≡ count_by is_skip_news (account_of k es)
skips-news k [] = refl
skips-news k (e ∷ es) = skips-one k e es (skips-news k es)

-- news of which none is counted but starts, finishes and skips
pub record IsOfThese (f : News → Bool) : Type 0 where
  pub failed : (s : ExecuteStatus) → f (failed s) ≡ false
  pub retried : (n : ℕ) → f (retried n) ≡ false

pub count-cons : (f : News → Bool) (n : News) (ns : List News) → count_by f (n ∷ ns) ≡ cond (f n) 1 0 + count_by f ns
count-cons f n ns = sum_by-cons (λ x. cond (f x) 1 0) n ns

pub count-append : (f : News → Bool) (ms ns : List News) → count_by f (ms ++ ns) ≡ count_by f ms + count_by f ns
count-append f ms ns = sum_by-append (λ x. cond (f x) 1 0) ms ns

count-more : (f : News → Bool) (n : News) (ns : List News) → f n ≡ false → count_by f ns ≡ 0 → count_by f (n ∷ ns) ≡ 0
count-more f n ns other none = count-cons f n ns ∙ rw (other, none) refl

count-tried_from : (f : News → Bool) → IsOfThese f → (n : ℕ) (ss : List ExecuteStatus)
    → count_by f (tried_from n ss) ≡ 0
count-tried_from f of n [] = refl
count-tried_from f of n (s ∷ ss) =
    count-more f (failed s) (retried (n + 1) ∷ tried_from (n + 1) ss) (of.failed s)
    (count-more f (retried (n + 1)) (tried_from (n + 1) ss) (of.retried (n + 1)) (count-tried_from f of (n + 1) ss))

pub count-tried : (f : News → Bool) → IsOfThese f → (ss : List ExecuteStatus) → count_by f (tried ss) ≡ 0
count-tried f of ss = count-tried_from f of 1 ss

count-retold : (f : News → Bool) → IsOfThese f → (ss : List ExecuteStatus) → count_by f (retold ss) ≡ 0
count-retold f of ss = count-tried f of (but_last ss)

count-failed : (f : News → Bool) → IsOfThese f → (last : Option ExecuteStatus)
    → count_by f (map failed (option_to_list last)) ≡ 0
count-failed f of None = refl
count-failed f of (Some s) = count-more f (failed s) [] (of.failed s) refl

count-failures : (f : News → Bool) → IsOfThese f → (ss : List ExecuteStatus) → count_by f (failures ss) ≡ 0
count-failures f of ss =
    count-append f (retold ss) (map failed (option_to_list (last_status ss)))
    ∙ rw (count-retold f of ss, count-failed f of (last_status ss)) refl

-- a finish after such news
pub count-last : (f : News → Bool) (n : News) (ns : List News) → count_by f ns ≡ 0
    → count_by f (ns ++ n ∷ []) ≡ cond (f n) 1 0
count-last f n ns none =
    let all : count_by f (ns ++ n ∷ []) ≡ count_by f ns + count_by f (n ∷ []) = count-append f ns (n ∷ []) in
    let last : count_by f (n ∷ []) ≡ cond (f n) 1 0 + count_by f [] = count-cons f n [] in
    let no_more : count_by f [] ≡ 0 = refl in
    omega (arith, all, last, no_more, none)

-- how many are in all that is told of a unit
abbrev counted : (News → Bool) → Bool → Option ℕ → List ExecuteStatus → ℕ
counted f true stopped ss = cond (f skipped) 1 0
counted f false (Some zero) ss = 0
counted f false (Some (suc n)) ss = cond (f started) 1 0
counted f false None ss = cond (f started) 1 0 + cond (f (finished ss)) 1 0

count-account : (f : News → Bool) → IsOfThese f → (mm : Bool) (stopped : Option ℕ) (ss : List ExecuteStatus)
    → count_by f (account mm stopped ss) ≡ counted f mm stopped ss
count-account f of true stopped ss = count-last f skipped [] refl
count-account f of false (Some zero) ss = refl
count-account f of false (Some (suc n)) ss =
    let all : count_by f (started ∷ failures ss) ≡ cond (f started) 1 0 + count_by f (failures ss) =
    count-cons f started (failures ss) in
    omega (arith, all, count-failures f of ss)
count-account f of false None ss =
    count-cons f started (retold ss ++ finished ss ∷ [])
    ∙ ap (λ c. cond (f started) 1 0 + c) (count-last f (finished ss) (retold ss) (count-retold f of ss))

pub starts_these : IsOfThese is_start
starts_these = record { failed = λ s. refl; retried = λ n. refl }

pub finishes_these : IsOfThese is_finish
finishes_these = record { failed = λ s. refl; retried = λ n. refl }

pub skips_these : IsOfThese is_skip_news
skips_these = record { failed = λ s. refl; retried = λ n. refl }

pub account_starts : (mm : Bool) (stopped : Option ℕ) (ss : List ExecuteStatus)
    → count_by is_start (account mm stopped ss) ≡ one_if (not mm && not (is_at_start stopped))
account_starts mm stopped ss = count-account is_start starts_these mm stopped ss ∙ by_fate mm stopped
  where
    by_fate : (mm : Bool) (stopped : Option ℕ)
        → counted is_start mm stopped ss ≡ one_if (not mm && not (is_at_start stopped))
    by_fate true stopped = refl
    by_fate false (Some zero) = refl
    by_fate false (Some (suc n)) = refl
    by_fate false None = refl

pub account_finishes : (mm : Bool) (stopped : Option ℕ) (ss : List ExecuteStatus)
    → count_by is_finish (account mm stopped ss)
    ≡ one_if (not mm && not (is_at_start stopped) && not (is_at_retry stopped))
account_finishes mm stopped ss = count-account is_finish finishes_these mm stopped ss ∙ by_fate mm stopped
  where
    by_fate : (mm : Bool) (stopped : Option ℕ)
        → counted is_finish mm stopped ss
        ≡ one_if (not mm && not (is_at_start stopped) && not (is_at_retry stopped))
    by_fate true stopped = refl
    by_fate false (Some zero) = refl
    by_fate false (Some (suc n)) = refl
    by_fate false None = refl

pub account_skips : (mm : Bool) (stopped : Option ℕ) (ss : List ExecuteStatus)
    → count_by is_skip_news (account mm stopped ss) ≡ one_if mm
account_skips mm stopped ss = count-account is_skip_news skips_these mm stopped ss ∙ by_fate mm stopped
  where
    by_fate : (mm : Bool) (stopped : Option ℕ) → counted is_skip_news mm stopped ss ≡ one_if mm
    by_fate true stopped = refl
    by_fate false (Some zero) = refl
    by_fate false (Some (suc n)) = refl
    by_fate false None = refl
