-- A run is a success exactly where all was told to pass.
use Rattle.std.proofs.Common.{◌≡◌, ℕ, ◌+◌, ◌<◌, ◌≤◌, nat_lt, List, Bool, true, false}
use Rattle.std.proofs.Common.{count_by, filter_map, Option, Some, None, refl, ap, sym, ◌∙◌, arith}
use Rattle.std.proofs.Common.{is_some, subst}
use Rattle.std.proofs.lemmas.List.Elements.{All-contains}
use Rattle.std.specs.List.{All, list_any}
use Rattle.std.proofs.lemmas.Bool.Decides.{nat_tests}
use Rattle.std.proofs.lemmas.Option.{same_Some}
use Rattle.run_events.specs.Outcome.{outcome_of, summary}
use Rattle.run_events.specs.Stats.{one_if, total_by}
use Rattle.run_events.specs.declared.cancel.CancelReason.{CancelReason}
use Rattle.run_events.specs.declared.events.ReporterEvent.{ReporterEvent}
use Rattle.run_events.specs.declared.settings.Settings.{Settings}
use Rattle.run_events.specs.declared.stats.RunStats.{RunStats}
use Rattle.run_model.specs.declared.entry.Entry.{Entry}
use Rattle.run_model.specs.Admission.{matched_in, scripts_in, tests_in, units_in}
use Rattle.run_model.specs.Journal.{IsLegalBackward, history, outcome}
use Rattle.run_model.specs.declared.happening.Happening.{Happening}
use Rattle.run_model.specs.SubRuns.{summary_of}
use Rattle.run_model.specs.Words.{ended_runs, finish_of, is_over, reason, skipped, stats, stats_after, sub_run, told}
use Rattle.run_laws.proofs.told.FateLemmas.{over_ended}
use Rattle.run_laws_calls.specs.Counts.{AreToldJustOnce, IsToldAtMostOnce, finishes_told, is_to_run}
use Rattle.run_laws_calls.specs.Numbers.{HasNumber}
use Rattle.run_laws_calls.specs.Stops.{AreCausesTold, tells_cancel}
use Rattle.run_laws_calls.specs.Success.{EndsAsTold, HaveAllPassed, IsRunSuccess, IsSuccessOfAll, finishes_test}
use Rattle.run_laws_calls.specs.Success.{fails_script, fails_test, finishes_script, outcome_uncancelled}
use Rattle.run_laws_calls.proofs.AnyLemmas.{any-count, any_none, any_some, count_none, count_some}
use Rattle.run_laws_calls.proofs.CountLemmas.{at_most, each_once}
use Rattle.run_laws_calls.proofs.FinishCounts.{scripts_finished, scripts_to_run, tests_finished, tests_to_run}
use Rattle.run_laws_calls.proofs.NumberLemmas.{numbered}
use Rattle.run_laws_calls.proofs.OutcomeLemmas.{outcome-over}
use Rattle.run_laws_calls.proofs.RangeLemmas.{each_equal, sum-same, sum_from}
use Rattle.run_laws_calls.proofs.ScriptLemmas.{PassesScripts, no_script_fails}
use Rattle.run_laws_calls.proofs.SummaryLemmas.{IsGood, good_by, outcome_by, success_by, summary-calm}
use Rattle.run_laws_calls.proofs.ToldLemmas.{both_each, causes_told, each_ended, each_newest}
use Rattle.run_laws_calls.proofs.WholeLemmas.{one_run}
use Rattle.run_laws_calls.proofs.WeighLemmas.{AddUp, events_add}

-- the counts of the statistics, by what was told
pub record IsCounted (p : Settings) (s : RunStats) (events : List ReporterEvent) : Type 0 where
  pub bad : s.failed + s.exec_failed + s.failed_timed_out ≡ count_by fails_test events
  pub scripts_bad : s.setup_scripts_failed + s.setup_scripts_exec_failed + s.setup_scripts_timed_out
      ≡ count_by fails_script events
  pub scripts : s.setup_scripts_finished_count ≡ count_by finishes_script events
  pub tests : s.finished_count ≡ count_by finishes_test events
  pub scripts_initial : s.setup_scripts_initial_count ≡ scripts_in p
  pub initial : s.initial_run_count ≡ matched_in p

pub counted : (p : Settings) (why : Option CancelReason) (skipped : ℕ) (events : List ReporterEvent)
    → IsCounted p (stats_after p why skipped (filter_map finish_of events)) events
unfolding total_by
counted p why skipped events =
    let h : AddUp (filter_map finish_of events) (count_by finishes_test events) (count_by finishes_script events)
    (count_by fails_test events) (count_by fails_script events) = events_add events in
    record {
      bad = omega (arith, h.bad);
      scripts_bad = omega (arith, h.scripts_bad);
      scripts = omega (arith, h.scripts);
      tests = omega (arith, h.tests);
      scripts_initial = omega (arith, h.scripts_initial);
      initial = omega (arith, h.initial);
    }

pub reason_is : (p : Settings) (run : List Happening) → (stats p run).cancel_reason ≡ reason run
unfolding total_by
reason_is p run = refl

-- each unit to run is told finished where as many are as are to run
most : (p : Settings) (events : List ReporterEvent) (k : ℕ) → IsToldAtMostOnce p events k
    → finishes_told k events ≤ one_if (is_to_run p k)
most p events k is = let a = is.starts in let b = is.finishes in omega (arith, a, b)

all_told : (p : Settings) (events : List ReporterEvent) → ((k : ℕ) → IsToldAtMostOnce p events k)
    → All (HasNumber p) events → scripts_in p ≤ count_by finishes_script events
    → matched_in p ≤ count_by finishes_test events
    → (k : ℕ) → finishes_told k events ≡ one_if (is_to_run p k)
all_told p events bound numbers scripts tests k = by_script (nat_lt k (scripts_in p)) refl
  where
    le : (k : ℕ) → finishes_told k events ≤ one_if (is_to_run p k)
    le k = most p events k (bound k)

    of_scripts : sum_from (λ k. one_if (is_to_run p k)) 0 (scripts_in p)
        ≤ sum_from (λ k. finishes_told k events) 0 (scripts_in p)
    of_scripts = rw (scripts_to_run p, scripts_finished p events numbers) scripts

    of_tests : sum_from (λ k. one_if (is_to_run p k)) (scripts_in p) (tests_in p)
        ≤ sum_from (λ k. finishes_told k events) (scripts_in p) (tests_in p)
    of_tests = rw (tests_to_run p, tests_finished p events numbers) tests

    beyond : nat_lt k (units_in p) ≡ false → finishes_told k events ≡ one_if (is_to_run p k)
    beyond out =
        let none : one_if (is_to_run p k) ≡ 0 = rw out refl in
        let few : finishes_told k events ≤ one_if (is_to_run p k) = le k in
        omega (arith, none, few)

    by_plan : (b : Bool) → nat_lt k (units_in p) ≡ b → scripts_in p ≤ k
        → finishes_told k events ≡ one_if (is_to_run p k)
    by_plan true e low =
        let high : k < scripts_in p + tests_in p = grind (arith, nat_tests) in
        each_equal (λ k. finishes_told k events) (λ k. one_if (is_to_run p k)) (tests_in p) (scripts_in p)
        (λ k low high. le k) of_tests k low high
    by_plan false e low = beyond e

    by_script : (b : Bool) → nat_lt k (scripts_in p) ≡ b → finishes_told k events ≡ one_if (is_to_run p k)
    by_script true e =
        let high : k < 0 + scripts_in p = grind (arith, nat_tests) in
        each_equal (λ k. finishes_told k events) (λ k. one_if (is_to_run p k)) (scripts_in p) 0
        (λ k low high. le k) of_scripts k (omega arith) high
    by_script false e = by_plan (nat_lt k (units_in p)) refl (grind (arith, nat_tests))

-- so by the statistics
passed_by : (p : Settings) (s : RunStats) (events : List ReporterEvent) → ((k : ℕ) → IsToldAtMostOnce p events k)
    → All (HasNumber p) events → IsCounted p s events → IsGood s → HaveAllPassed p events
passed_by p s events bound numbers of good =
    let scripts = of.scripts in
    let tests = of.tests in
    let scripts_initial = of.scripts_initial in
    let initial = of.initial in
    let all_scripts = good.scripts in
    let all_tests = good.tests in
    let a_test = good.some in
    record {
      some = any_some finishes_test events (omega (arith, tests, a_test));
      each = all_told p events bound numbers (omega (arith, scripts, scripts_initial, all_scripts))
          (omega (arith, tests, initial, all_tests));
      scripts_passed = any_none fails_script events (sym of.scripts_bad ∙ good.no_script_failed);
      tests_passed = any_none fails_test events (sym of.bad ∙ good.none_failed);
    }

scripts_ended : (p : Settings) (events : List ReporterEvent) → All (HasNumber p) events
    → ((k : ℕ) → finishes_told k events ≡ one_if (is_to_run p k)) → scripts_in p ≡ count_by finishes_script events
scripts_ended p events numbers each =
    sym (scripts_to_run p)
    ∙ sym (sum-same (λ k. finishes_told k events) (λ k. one_if (is_to_run p k)) (scripts_in p) 0
    (λ k low high. each k))
    ∙ scripts_finished p events numbers

tests_ended : (p : Settings) (events : List ReporterEvent) → All (HasNumber p) events
    → ((k : ℕ) → finishes_told k events ≡ one_if (is_to_run p k)) → matched_in p ≡ count_by finishes_test events
tests_ended p events numbers each =
    sym (tests_to_run p)
    ∙ sym (sum-same (λ k. finishes_told k events) (λ k. one_if (is_to_run p k)) (tests_in p) (scripts_in p)
    (λ k low high. each k))
    ∙ tests_finished p events numbers

good_when : (p : Settings) (s : RunStats) (events : List ReporterEvent) → All (HasNumber p) events
    → IsCounted p s events → HaveAllPassed p events → IsGood s
good_when p s events numbers of all =
    let scripts = of.scripts in
    let tests = of.tests in
    let scripts_initial = of.scripts_initial in
    let initial = of.initial in
    let a_test : 0 < count_by finishes_test events = count_some finishes_test events all.some in
    let all_scripts = scripts_ended p events numbers all.each in
    let all_tests = tests_ended p events numbers all.each in
    record {
      none_failed = of.bad ∙ count_none fails_test events all.tests_passed;
      no_script_failed = of.scripts_bad ∙ count_none fails_script events all.scripts_passed;
      scripts = omega (arith, scripts, scripts_initial, all_scripts);
      tests = omega (arith, tests, initial, all_tests);
      some = omega (arith, tests, a_test);
    }

-- so each sub-run
all_numbered : (p : Settings) (backward : List Entry) → IsLegalBackward p backward
    → All (HasNumber p) (told (sub_run (history p backward)))
all_numbered p backward legal = each_newest (HasNumber p) (history p backward) (numbered p backward legal)

success_so : (p : Settings) (backward : List Entry) → IsLegalBackward p backward
    → IsSuccessOfAll p (sub_run (history p backward))
success_so p backward legal = record {
  only = λ is. passed_by p (stats p run) (told run) (at_most p backward legal) (all_numbered p backward legal) of
      (good_by (stats p run) is);
  always = λ all. success_by (stats p run)
      (good_when p (stats p run) (told run) (all_numbered p backward legal) of all);
}
  where
    run : List Happening
    run = sub_run (history p backward)

    of : IsCounted p (stats p run) (told run)
    of = counted p (reason run) (skipped run) (told run)

pub each_success : (p : Settings) (backward : List Entry) → IsLegalBackward p backward
    → All (IsSuccessOfAll p) (ended_runs (history p backward))
each_success p backward legal = each_ended (IsSuccessOfAll p) p (success_so p) backward legal

-- and a run that is over, and no stress run
pub run_success : (p : Settings) (backward : List Entry) → p.stress ≡ None → IsLegalBackward p backward
    → is_over (history p backward) ≡ true → IsRunSuccess p (history p backward)
run_success p backward single legal over = record {
  only = λ is. subst (HaveAllPassed p) (sym same) (so.only (same_Some _ _ (sym out ∙ is)));
  always = λ all. out ∙ ap Some (so.always (subst (HaveAllPassed p) same all));
}
  where
    run : List Happening
    run = sub_run (history p backward)

    same : told (history p backward) ≡ told run
    same = (one_run p backward single legal).same.told

    out : outcome p (history p backward) ≡ Some (outcome_of (summary_of p run))
    out = outcome-over p backward single legal over

    so : IsSuccessOfAll p run
    so = success_so p backward legal

-- where nothing was cancelled
calm_outcome : (p : Settings) (s : RunStats) (events : List ReporterEvent) → All (HasNumber p) events
    → IsCounted p s events → s.cancel_reason ≡ None → ((k : ℕ) → finishes_told k events ≡ one_if (is_to_run p k))
    → list_any fails_script events ≡ false → outcome_of (summary s) ≡ outcome_uncancelled events
calm_outcome p s events numbers of calm each passed =
    let scripts = of.scripts in
    let tests = of.tests in
    let scripts_initial = of.scripts_initial in
    let initial = of.initial in
    let all_scripts = scripts_ended p events numbers each in
    let all_tests = tests_ended p events numbers each in
    summary-calm s calm (omega (arith, scripts, scripts_initial, all_scripts))
    (omega (arith, tests, initial, all_tests))
    ∙ ap (λ n. outcome_by (nat_lt 0 n) (nat_lt 0 (s.failed + s.exec_failed + s.failed_timed_out))
    (nat_lt 0 s.finished_count)) of.scripts_bad
    ∙ ap (λ n. outcome_by (nat_lt 0 (count_by fails_script events)) (nat_lt 0 n) (nat_lt 0 s.finished_count)) of.bad
    ∙ ap (λ n. outcome_by (nat_lt 0 (count_by fails_script events)) (nat_lt 0 (count_by fails_test events))
    (nat_lt 0 n)) of.tests
    ∙ ap (λ b. outcome_by b (nat_lt 0 (count_by fails_test events)) (nat_lt 0 (count_by finishes_test events)))
    (any-count fails_script events ∙ passed)
    ∙ ap (λ b. outcome_by false b (nat_lt 0 (count_by finishes_test events)))
    (any-count fails_test events)
    ∙ ap (outcome_by false (list_any fails_test events)) (any-count finishes_test events)

none_of : {X : Type 0} (o : Option X) → is_some o ≡ false → o ≡ None
none_of None e = refl
none_of (Some x) e = cc

-- a sub-run of which this is known ends as its events tell
record IsKnown (p : Settings) (run : List Happening) : Type 0 where
  numbers : All (HasNumber p) (told run)
  causes : AreCausesTold run
  passes : PassesScripts run

known : (p : Settings) (backward : List Entry) → IsLegalBackward p backward → IsKnown p (sub_run (history p backward))
known p backward legal = record {
  numbers = all_numbered p backward legal;
  causes = causes_told p backward legal;
  passes = no_script_fails p backward legal;
}

ends_so : (p : Settings) (run : List Happening) → AreToldJustOnce p run → IsKnown p run → EndsAsTold p run
ends_so p run once known calm =
    calm_outcome p (stats p run) (told run) known.numbers (counted p (reason run) (skipped run) (told run))
    (reason_is p run ∙ none_of _ (known.causes.any ∙ calm)) (λ k. (once calm k).finishes) (known.passes calm)

pub each_uncancelled : (p : Settings) (backward : List Entry) → IsLegalBackward p backward
    → All (EndsAsTold p) (ended_runs (history p backward))
each_uncancelled p backward legal =
    both_each (AreToldJustOnce p) (IsKnown p) (EndsAsTold p) (ends_so p) (ended_runs (history p backward))
    (each_once p backward legal) (each_ended (IsKnown p) p (known p) backward legal)

pub uncancelled : (p : Settings) (backward : List Entry) → p.stress ≡ None → IsLegalBackward p backward
    → is_over (history p backward) ≡ true → list_any tells_cancel (told (history p backward)) ≡ false
    → outcome p (history p backward) ≡ Some (outcome_uncancelled (told (history p backward)))
uncancelled p backward single legal over calm =
    outcome-over p backward single legal over
    ∙ ap Some (ends (ap (list_any tells_cancel) (sym same) ∙ calm))
    ∙ ap (λ events. Some (outcome_uncancelled events)) (sym same)
  where
    run : List Happening
    run = sub_run (history p backward)

    same : told (history p backward) ≡ told run
    same = (one_run p backward single legal).same.told

    ends : EndsAsTold p run
    ends = All-contains (EndsAsTold p) (ended_runs (history p backward)) run (each_uncancelled p backward legal)
        (over_ended p backward legal over)
