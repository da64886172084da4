-- How often each unit is told started, finished and skipped, over every legal journal.
use Rattle.std.proofs.Common.{◌≡◌, ℕ, ◌-◌, ◌≤◌, ◌<◌, nat_lt, List, [], Bool, true, false, not, ◌&&◌}
use Rattle.std.proofs.Common.{count_by, Option, Some, None, slice_get, refl, ap, sym, subst, ◌∙◌, arith}
use Rattle.std.specs.List.{All, list_any}
use Rattle.std.proofs.lemmas.Bool.Decides.{nat_tests}
use Rattle.std.proofs.lemmas.Option.{slice_get_past}
use Rattle.run_events.specs.Stats.{one_if}
use Rattle.run_events.specs.declared.settings.Settings.{Settings}
use Rattle.run_model.specs.declared.entry.Entry.{Entry}
use Rattle.run_model.specs.declared.happening.Happening.{Happening}
use Rattle.run_model.specs.declared.unit_view.UnitView.{UnitView}
use Rattle.run_model.specs.Accounts.{HasAccount, News, account_of, is_mismatched, is_skip, pending_of}
use Rattle.run_model.specs.Admission.{is_script, scripts_in, units_in}
use Rattle.run_model.specs.Attempts.{statuses_of}
use Rattle.run_model.specs.Fates.{HasFate, HaveFates}
use Rattle.run_model.specs.Journal.{IsLegalBackward, history}
use Rattle.run_model.specs.Story.{stopped_at, was_left}
use Rattle.run_model.specs.Words.{clock, ended_runs, is_over, queue, sub_run, told, unit_of}
use Rattle.run_laws.proofs.told.FateLemmas.{ended_fates, over_ended}
use Rattle.run_laws.proofs.board.Holds.{Holds}
use Rattle.run_laws.proofs.board.Kept.{holds}
use Rattle.run_laws.proofs.told.Running.{is_finish, is_start}
use Rattle.run_laws_calls.specs.Counts.{AreToldByFate, AreToldJustOnce, IsToldAtMostOnce, IsToldByItsFate}
use Rattle.run_laws_calls.specs.Counts.{IsToldJustOnce, finishes_told, is_to_run, skips_told, starts_told}
use Rattle.run_laws_calls.specs.Stops.{AreCausesTold, IsUnstopped, tells_cancel}
use Rattle.run_laws_calls.proofs.BoundLemmas.{IsBounded, bounded_at}
use Rattle.run_laws_calls.proofs.NewsLemmas.{account_finishes, account_skips, account_starts, finishes-news}
use Rattle.run_laws_calls.proofs.NewsLemmas.{is_skip_news, skips-news, starts-news}
use Rattle.run_laws_calls.proofs.ToldLemmas.{both_each, causes_told, each_ended, unstopped_by}
use Rattle.run_laws_calls.proofs.WholeLemmas.{one_run}
use Rattle.run_laws.proofs.units.LetGo.{and_true}
use Rattle.std.proofs.lemmas.List.Elements.{All-contains}

-- a number of the plan, and one beyond it
below : (p : Settings) (k : ℕ) → k < units_in p → nat_lt k (units_in p) ≡ true
below p k h = grind (arith, nat_tests)

beyond : (p : Settings) (k : ℕ) → nat_lt k (units_in p) ≡ false → units_in p ≤ k
beyond p k h = grind (arith, nat_tests)

within : (p : Settings) (k : ℕ) → nat_lt k (units_in p) ≡ true → k < units_in p
within p k h = grind (arith, nat_tests)

-- what is told of a unit, by its account
bounds : (p : Settings) (now : ℕ) (run : List Happening) (k : ℕ) → Holds p now run
    → IsToldAtMostOnce p (told run) k
bounds p now run k h = by_unit (unit_of k run) refl (h.accounts k)
  where
    t : List News
    t = account_of k (told run)

    none : t ≡ [] → IsToldAtMostOnce p (told run) k
    none is =
        let starts : starts_told k (told run) ≡ 0 = starts-news k (told run) ∙ ap (count_by is_start) is in
        let finishes : finishes_told k (told run) ≡ 0 = finishes-news k (told run) ∙ ap (count_by is_finish) is in
        let skips : skips_told k (told run) ≡ 0 = skips-news k (told run) ∙ ap (count_by is_skip_news) is in
        record {
          starts = omega (arith, starts);
          finishes = omega (arith, starts, finishes);
          skips = omega (arith, skips);
        }

    some : nat_lt k (units_in p) ≡ true → IsBounded (is_mismatched p k) t → IsToldAtMostOnce p (told run) k
    some inside bounded = record {
      starts = rw (starts-news k (told run), inside) bounded.starts;
      finishes = rw (starts-news k (told run), finishes-news k (told run)) bounded.finishes;
      skips = rw (skips-news k (told run)) bounded.skips;
    }

    by_unit : (v : Option UnitView) → unit_of k run ≡ v
        → HasAccount (is_mismatched p k) (was_left k run) v t (pending_of k (queue run))
        → IsToldAtMostOnce p (told run) k
    by_unit None is has = none has.0
    by_unit (Some u) is has =
        some (below p k (h.named k u is).1)
        (bounded_at (is_mismatched p k) (was_left k run) u.phase u.statuses t (pending_of k (queue run)) has)

pub at_most : (p : Settings) (backward : List Entry) → IsLegalBackward p backward → (k : ℕ)
    → IsToldAtMostOnce p (told (sub_run (history p backward))) k
at_most p backward legal k =
    bounds p (clock (history p backward)) (sub_run (history p backward)) k (holds p backward legal)

-- beyond the plan no unit is mismatched
matches_beyond : (p : Settings) (k : ℕ) → units_in p ≤ k → is_mismatched p k ≡ false
matches_beyond p k h = by_script (is_script p k)
  where
    none : slice_get p.plan.tests (k - scripts_in p) ≡ None
    none = slice_get_past p.plan.tests (k - scripts_in p) (omega (arith, h))

    by_script : (b : Bool) → (not b && is_skip (slice_get p.plan.tests (k - scripts_in p))) ≡ false
    by_script true = refl
    by_script false = ap is_skip none

-- so in a sub-run that has ended, by its fate
by_fate : (p : Settings) (run : List Happening) (k : ℕ) → nat_lt k (units_in p) ≡ true → HasFate p run k
    → IsToldByItsFate p run k
by_fate p run k inside fate = record {
  starts = rw inside (starts-news k (told run) ∙ ap (count_by is_start) fate.account
      ∙ account_starts (is_mismatched p k) (stopped_at k run) (statuses_of p k run));
  finishes = rw inside (finishes-news k (told run) ∙ ap (count_by is_finish) fate.account
      ∙ account_finishes (is_mismatched p k) (stopped_at k run) (statuses_of p k run));
  skips = skips-news k (told run) ∙ ap (count_by is_skip_news) fate.account
      ∙ account_skips (is_mismatched p k) (stopped_at k run) (statuses_of p k run);
}

no_more : (n : ℕ) → n ≤ 0 → n ≡ 0
no_more n h = omega arith

by_none : (p : Settings) (run : List Happening) (k : ℕ) → nat_lt k (units_in p) ≡ false
    → IsToldAtMostOnce p (told run) k → IsToldByItsFate p run k
by_none p run k outside most =
    let mm : is_mismatched p k ≡ false = matches_beyond p k (beyond p k outside) in
    let starts : starts_told k (told run) ≡ 0 = no_more _ (rw outside at most.starts) in
    let finishes : finishes_told k (told run) ≡ 0 = no_more _ (rw starts at most.finishes) in
    let skips : skips_told k (told run) ≡ 0 = no_more _ (rw mm at most.skips) in
    record { starts = rw outside starts; finishes = rw outside finishes; skips = rw mm skips }

told_by_fate : (p : Settings) (run : List Happening) → HaveFates p run → ((k : ℕ) → IsToldAtMostOnce p (told run) k)
    → AreToldByFate p run
told_by_fate p run fates most k = by_plan (nat_lt k (units_in p)) refl
  where
    by_plan : (b : Bool) → nat_lt k (units_in p) ≡ b → IsToldByItsFate p run k
    by_plan true inside = by_fate p run k inside (fates k (within p k inside))
    by_plan false outside = by_none p run k outside (most k)

pub at_end : (p : Settings) (backward : List Entry) → IsLegalBackward p backward
    → All (AreToldByFate p) (ended_runs (history p backward))
at_end p backward legal =
    both_each (HaveFates p) (λ run. (k : ℕ) → IsToldAtMostOnce p (told run) k) (AreToldByFate p) (told_by_fate p)
    (ended_runs (history p backward)) (ended_fates p backward legal)
    (each_ended (λ run. (k : ℕ) → IsToldAtMostOnce p (told run) k) p (at_most p) backward legal)

-- and where nothing stopped it
unstopped_once : (p : Settings) (run : List Happening) (k : ℕ) → IsToldByItsFate p run k → IsUnstopped run k
    → IsToldJustOnce p (told run) k
unstopped_once p run k is free = record {
  starts = is.starts ∙ ap (λ b. one_if (is_to_run p k && not b)) free.started ∙ ap one_if (and_true (is_to_run p k));
  finishes = is.finishes
      ∙ ap (λ b. one_if (is_to_run p k && not b && not (was_left k run))) free.started
      ∙ ap (λ b. one_if (is_to_run p k && true && not b)) free.stayed
      ∙ ap one_if (and_true (is_to_run p k && true) ∙ and_true (is_to_run p k));
  skips = is.skips;
}

just_once : (p : Settings) (run : List Happening) → AreToldByFate p run → AreCausesTold run → AreToldJustOnce p run
just_once p run are causes calm k = unstopped_once p run k (are k) (unstopped_by run causes calm k)

pub each_once : (p : Settings) (backward : List Entry) → IsLegalBackward p backward
    → All (AreToldJustOnce p) (ended_runs (history p backward))
each_once p backward legal =
    both_each (AreToldByFate p) AreCausesTold (AreToldJustOnce p) (just_once p) (ended_runs (history p backward))
    (at_end p backward legal) (each_ended AreCausesTold p (causes_told p) backward legal)

-- so in a run that is over, and no stress run
pub once_one : (p : Settings) (backward : List Entry) → p.stress ≡ None → IsLegalBackward p backward
    → is_over (history p backward) ≡ true → list_any tells_cancel (told (history p backward)) ≡ false → (k : ℕ)
    → IsToldJustOnce p (told (history p backward)) k
once_one p backward single legal over calm k =
    subst (λ events. IsToldJustOnce p events k) (sym same)
    (All-contains (AreToldJustOnce p) (ended_runs (history p backward)) (sub_run (history p backward))
    (each_once p backward legal) (over_ended p backward legal over) (ap (list_any tells_cancel) (sym same) ∙ calm) k)
  where
    same : told (history p backward) ≡ told (sub_run (history p backward))
    same = (one_run p backward single legal).same.told
