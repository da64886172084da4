-- What is told of one unit, in order: it starts, and then attempts fail and are tried again until it finishes; or it is
-- skipped.
use Rattle.std.proofs.Common.{◌≡◌, ℕ, ◌+◌, List, [], ◌∷◌, ◌++◌, Bool, true, false, ◌&&◌, not, Option, Some, None, inl}
use Rattle.std.proofs.Common.{inr}
use Rattle.std.proofs.Common.{refl, ap, sym, subst}
use Rattle.std.specs.Prelude.{⊤}
use Rattle.std.specs.List.{list_any}
use Rattle.run_events.specs.declared.result.ExecuteStatus.{ExecuteStatus}
use Rattle.run_model.specs.declared.phase.Phase.{Phase}
use Rattle.run_model.specs.declared.phase.Phase.TheVariants.{StartSent, Starting, Running, Grace, KillWait, Leak}
use Rattle.run_model.specs.declared.phase.Phase.TheVariants.{EnvWait, Deciding, Delay, RetrySent, Over}
use Rattle.run_model.specs.declared.unit_view.UnitView.{UnitView}
use Rattle.run_model.specs.Accounts.{News, started, failed, retried, finished, skipped, tried, tried_from, HasAccount}
use Rattle.run_model.specs.Accounts.{HasAccountAt}
use Rattle.run_laws.proofs.told.Running.{is_start, is_finish}

-- after a start attempts fail and are tried again, and at last it may finish
abbrev pub GoesOn : List News → Type 0
GoesOn [] = ⊤
GoesOn (failed s ∷ t) = GoesOn t
GoesOn (retried n ∷ t) = GoesOn t
GoesOn (finished ss ∷ []) = ⊤
GoesOn (n ∷ t) = ⊥

abbrev pub IsCourse : List News → Type 0
IsCourse [] = ⊤
IsCourse (started ∷ t) = GoesOn t
IsCourse (skipped ∷ []) = ⊤
IsCourse (n ∷ t) = ⊥

-- each account is one
tried_on : (n : ℕ) (ss : List ExecuteStatus) (t : List News) → GoesOn t → GoesOn (tried_from n ss ++ t)
tried_on n [] t h = h
tried_on n (s ∷ ss) t h = tried_on (n + 1) ss t h

by_phase : (mm left : Bool) (ph : Phase) (ss : List ExecuteStatus) (t q : List News) → HasAccountAt mm left ph ss t q
    → IsCourse t
by_phase mm left ph ss t q h = by_case mm left ph ss h
  where
    none : t ≡ [] → IsCourse t
    none is = subst IsCourse (sym is) tt

    skip : t ≡ skipped ∷ [] → IsCourse t
    skip is = subst IsCourse (sym is) tt

    ends : (early : List ExecuteStatus) (last : List News) → GoesOn last → t ≡ started ∷ tried early ++ last
        → IsCourse t
    ends early last h is = subst IsCourse (sym is) (tried_on 1 early last h)

    begun : (early : List ExecuteStatus) → t ≡ started ∷ tried early → IsCourse t
    begun early is = subst IsCourse (sym is) (goes early 1)
      where
        goes : (ss : List ExecuteStatus) (n : ℕ) → GoesOn (tried_from n ss)
        goes [] n = tt
        goes (s ∷ ss) n = goes ss (n + 1)

    by_case : (mm left : Bool) (ph : Phase) (ss : List ExecuteStatus) → HasAccountAt mm left ph ss t q → IsCourse t
    by_case false left StartSent ss (empty, (is, waits)) = none is
    by_case false left Starting ss (is, waits) = begun ss is
    by_case false left Running ss (is, waits) = begun ss is
    by_case false left Grace ss (is, waits) = begun ss is
    by_case false left KillWait ss (is, waits) = begun ss is
    by_case false left Leak ss (is, waits) = begun ss is
    by_case false left EnvWait ss (is, waits) = begun ss is
    by_case false left Deciding ss (early, (s, (e, (is, waits)))) = begun early is
    by_case false left Delay ss (early, (s, (e, inl (is, waits)))) = begun early is
    by_case false left Delay ss (early, (s, (e, inr (is, waits)))) = ends early (failed s ∷ []) tt is
    by_case false left RetrySent ss (early, (s, (e, inl (is, waits)))) = begun early is
    by_case false left RetrySent ss (early, (s, (e, inr (is, waits)))) = ends early (failed s ∷ []) tt is
    by_case false true Over ss (early, (s, (e, (is, waits)))) = ends early (failed s ∷ []) tt is
    by_case false false Over [] (is, waits) = none is
    by_case false false Over (x ∷ ss) (early, (s, (e, inl (is, waits)))) = begun early is
    by_case false false Over (x ∷ ss) (early, (s, (e, inr (is, waits)))) = ends early (finished (x ∷ ss) ∷ []) tt is
    by_case true left Over [] (inl (is, waits)) = none is
    by_case true left Over [] (inr (is, waits)) = skip is
    by_case true left Over (s ∷ ss) h = absurd h
    by_case true left ph ss h = absurd h

pub account_course : (mm left : Bool) (v : Option UnitView) (t q : List News) → HasAccount mm left v t q → IsCourse t
account_course mm left None t q h = subst IsCourse (sym h.0) tt
account_course mm left (Some u) t q h = by_phase mm left u.phase u.statuses t q h

-- so is what was told first
goes_first : (t u : List News) → GoesOn (t ++ u) → GoesOn t
goes_first [] u h = tt
goes_first (failed s ∷ t) u h = goes_first t u h
goes_first (retried n ∷ t) u h = goes_first t u h
goes_first (finished ss ∷ []) u h = tt
goes_first (finished ss ∷ n ∷ t) u h = absurd h
goes_first (started ∷ t) u h = absurd h
goes_first (skipped ∷ t) u h = absurd h

pub course_first : (t u : List News) → IsCourse (t ++ u) → IsCourse t
course_first [] u h = tt
course_first (started ∷ t) u h = goes_first t u h
course_first (skipped ∷ []) u h = tt
course_first (skipped ∷ n ∷ t) u h = absurd h
course_first (failed s ∷ t) u h = absurd h
course_first (retried n ∷ t) u h = absurd h
course_first (finished ss ∷ t) u h = absurd h

-- whether a unit is shown by news, and by all that was told of it
abbrev pub shown_with : Bool → News → Bool
shown_with shown started = true
shown_with shown (failed s) = true
shown_with shown (retried n) = true
shown_with shown (finished ss) = false
shown_with shown skipped = shown

abbrev pub shown_after_news : Bool → List News → Bool
shown_after_news shown [] = shown
shown_after_news shown (n ∷ t) = shown_after_news (shown_with shown n) t

-- whether it runs: it was told started, and not finished
abbrev pub runs_by : List News → Bool
runs_by t = list_any is_start t && not (list_any is_finish t)

-- which is the same
goes_shown : (t : List News) → GoesOn t → shown_after_news true t ≡ not (list_any is_finish t)
goes_shown [] h = refl
goes_shown (failed s ∷ t) h = goes_shown t h
goes_shown (retried n ∷ t) h = goes_shown t h
goes_shown (finished ss ∷ []) h = refl
goes_shown (finished ss ∷ n ∷ t) h = absurd h
goes_shown (started ∷ t) h = absurd h
goes_shown (skipped ∷ t) h = absurd h

pub course_shown : (t : List News) → IsCourse t → shown_after_news false t ≡ runs_by t
course_shown [] h = refl
course_shown (started ∷ t) h = goes_shown t h
course_shown (skipped ∷ []) h = refl
course_shown (skipped ∷ n ∷ t) h = absurd h
course_shown (failed s ∷ t) h = absurd h
course_shown (retried n ∷ t) h = absurd h
course_shown (finished ss ∷ t) h = absurd h

-- whether news tell of a unit that runs: that an attempt failed or is tried again, or that it finishes
abbrev pub goes_on_by : News → Bool
goes_on_by started = false
goes_on_by (failed s) = true
goes_on_by (retried n) = true
goes_on_by (finished ss) = true
goes_on_by skipped = false

goes_found : (t u : List News) (n : News) → GoesOn (t ++ n ∷ u) → list_any is_finish t ≡ false
goes_found [] u n h = refl
goes_found (failed s ∷ t) u n h = goes_found t u n h
goes_found (retried m ∷ t) u n h = goes_found t u n h
goes_found (finished ss ∷ []) u n h = absurd h
goes_found (finished ss ∷ m ∷ t) u n h = absurd h
goes_found (started ∷ t) u n h = absurd h
goes_found (skipped ∷ t) u n h = absurd h

-- such news find the unit running
pub course_goes_on : (t u : List News) (n : News) → goes_on_by n ≡ true → IsCourse (t ++ n ∷ u) → runs_by t ≡ true
course_goes_on [] u (failed s) on h = absurd h
course_goes_on [] u (retried n) on h = absurd h
course_goes_on [] u (finished ss) on h = absurd h
course_goes_on [] u started on h = cc
course_goes_on [] u skipped on h = cc
course_goes_on (started ∷ t) u n on h = ap not (goes_found t u n h)
course_goes_on (skipped ∷ []) u n on h = absurd h
course_goes_on (skipped ∷ m ∷ t) u n on h = absurd h
course_goes_on (failed s ∷ t) u n on h = absurd h
course_goes_on (retried m ∷ t) u n on h = absurd h
course_goes_on (finished ss ∷ t) u n on h = absurd h

-- and its start finds it not running
goes_start : (t u : List News) → GoesOn (t ++ started ∷ u) → ⊥
goes_start [] u h = h
goes_start (failed s ∷ t) u h = goes_start t u h
goes_start (retried n ∷ t) u h = goes_start t u h
goes_start (finished ss ∷ []) u h = h
goes_start (finished ss ∷ n ∷ t) u h = h
goes_start (started ∷ t) u h = h
goes_start (skipped ∷ t) u h = h

pub course_starts : (t u : List News) → IsCourse (t ++ started ∷ u) → runs_by t ≡ false
course_starts [] u h = refl
course_starts (started ∷ t) u h = absurd (goes_start t u h)
course_starts (skipped ∷ []) u h = absurd h
course_starts (skipped ∷ n ∷ t) u h = absurd h
course_starts (failed s ∷ t) u h = absurd h
course_starts (retried n ∷ t) u h = absurd h
course_starts (finished ss ∷ t) u h = absurd h
