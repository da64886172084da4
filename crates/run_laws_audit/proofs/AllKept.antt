-- What is told of a run that is over keeps each law of an auditor.
use Rattle.std.proofs.Common.{◌≡◌, ℕ, ◌<◌, List, [], ◌∷◌, ◌++◌, map, reverse, Bool, true, false, if◌then◌else◌, Option}
use Rattle.std.proofs.Common.{sym, subst}
use Rattle.std.specs.List.{All, IsDistinct, flat_map, range_with_len}
use Rattle.std.proofs.Common.{Some, filter_map, slice_get}
use Rattle.std.proofs.lemmas.List.Elements.{All-nil, All-cons, All-head, All-map, All-tail}
use Rattle.run_events.specs.declared.events.ReporterEvent.{ReporterEvent}
use Rattle.run_events.specs.declared.plan.PlanTest.{PlanTest}
use Rattle.run_events.specs.declared.settings.Settings.{Settings}
use Rattle.run_events.specs.declared.stress.StressIndex.{StressIndex}
use Rattle.run_model.specs.declared.entry.Entry.{Entry}
use Rattle.run_model.specs.declared.happening.Happening.{Happening}
use Rattle.run_model.specs.Admission.{scripts_in, unit_of_test}
use Rattle.run_model.specs.Fates.{HaveFates}
use Rattle.run_model.specs.Journal.{IsLegalBackward, history}
use Rattle.run_model.specs.Reruns.{is_one_test}
use Rattle.run_model.specs.SubRuns.{stress_index}
use Rattle.run_model.specs.Turns.{happening}
use Rattle.run_model.specs.Words.{ended_runs, events_in, is_over, sub_run, told}
use Rattle.run_laws.specs.Scripts.{HasScriptFate}
use Rattle.run_laws.proofs.told.FateLemmas.{ended_fates}
use Rattle.run_laws.proofs.told.FileLemmas.{told_as_read}
use Rattle.run_laws.proofs.told.FirstLemmas.{come_first, script_fates}
use Rattle.run_laws_calls.proofs.CountLemmas.{at_most}
use Rattle.run_laws_calls.proofs.ToldLemmas.{each_newest}
use Rattle.run_laws_cancel.proofs.ScriptLemmas.{one_by_one}
use Rattle.run_laws_events.proofs.AnswersNamed.{events_named}
use Rattle.run_laws_events.proofs.WithinLemmas.{plan_limits}
use Rattle.run_audit_model.specs.Kept.{KeepsRun, OfEachRun}
use Rattle.run_audit_model.specs.Parts.{parts}
use Rattle.run_audit_model.specs.Seen.{as_audited}
use Rattle.run_audit_model.specs.SeenLimits.{KeepsTold}
use Rattle.run_audit_model.specs.SeenScripts.{KeepsScripts, due_script}
use Rattle.run_audit_model.specs.SeenTests.{KeepsAccounts, due_account}
use Rattle.run_laws_audit.specs.Due.{account_told, script_news}
use Rattle.run_laws_audit.specs.Plain.{ArePlainTold, HasPlainStatus}
use Rattle.run_laws_audit.specs.Within.{sub_run_part}
use Rattle.run_laws_audit.proofs.AroundLemmas.{around, part_keeps}
use Rattle.run_laws_audit.proofs.CancelLemmas.{cancels_are_kept}
use Rattle.run_laws_audit.proofs.EachLemmas.{of_each}
use Rattle.run_laws_audit.proofs.EndedLemmas.{all-reverse, each_end}
use Rattle.run_laws_audit.proofs.IdLemmas.{ids_of}
use Rattle.run_laws_audit.proofs.LimitLemmas as limits
use Rattle.run_laws_audit.proofs.ScriptLemmas as scripts
use Rattle.run_laws_audit.proofs.TestLemmas as tests
use Rattle.run_laws_audit.proofs.WholeLemmas.{parts_told, shape_kept}

-- what holds of each event of a history holds of each event of each sub-run that has ended
first_each : {X : Type 0} (P : X → Type 0) (earlier later : List X) → All P (earlier ++ later) → All P earlier
first_each P [] later all = All-nil P
first_each P (x ∷ earlier) later all =
    All-cons P x earlier (All-head P x (earlier ++ later) all)
    (first_each P earlier later (All-tail P x (earlier ++ later) all))

each_event : (P : ReporterEvent → Type 0) (past : List Happening) → All P (told past)
    → All (λ run. All P (told run)) (ended_runs past)
each_event P [] all = All-nil (λ run. All P (told run))
each_event P (x ∷ past) all = by_end x.ends (each_event P past (first_each P (told past) (events_in x) all))
  where
    by_end : (b : Bool) → All (λ run. All P (told run)) (ended_runs past)
        → All (λ run. All P (told run)) (if b then sub_run (x ∷ past) ∷ ended_runs past else ended_runs past)
    by_end true earlier =
        All-cons (λ run. All P (told run)) (sub_run (x ∷ past)) (ended_runs past) (each_newest P (x ∷ past) all) earlier
    by_end false earlier = earlier

-- what holds of each sub-run that has ended holds of the newest, where a turn ends it
newest : (P : List Happening → Type 0) (p : Settings) (e : Entry) (before : List Entry)
    → (happening p (history p before) e).ends ≡ true → All P (ended_runs (history p (e ∷ before)))
    → P (sub_run (history p (e ∷ before)))
newest P p e before ends all =
    All-head P (sub_run (x ∷ past)) (ended_runs past)
    (subst (λ b. All P (if b then sub_run (x ∷ past) ∷ ended_runs past else ended_runs past)) ends all)
  where
    past : List Happening
    past = history p before

    x : Happening
    x = happening p past e

-- which sub-run of a stress run the newest one is
abbrev index_of : Settings → List Entry → Option StressIndex
index_of p backward = stress_index p (history p backward)

-- what a part tells of tests is due
tests_each : (p : Settings) (backward : List Entry) → IsDistinct is_one_test (ids_of p.plan.tests)
    → IsLegalBackward p backward
    → All (λ run. All HasPlainStatus (told run) → KeepsAccounts p run (sub_run_part p run))
    (ended_runs (history p backward))
tests_each p backward once legal =
    each_end (λ run. All HasPlainStatus (told run) → KeepsAccounts p run (sub_run_part p run)) p at_end backward legal
  where
    at_end : (e : Entry) (before : List Entry) → IsLegalBackward p (e ∷ before)
        → (happening p (history p before) e).ends ≡ true
        → All HasPlainStatus (told (sub_run (history p (e ∷ before))))
        → KeepsAccounts p (sub_run (history p (e ∷ before))) (sub_run_part p (sub_run (history p (e ∷ before))))
    at_end e before legal ends plain =
        part_keeps (KeepsAccounts p run) p run (tests.ignores p run) (around p (e ∷ before) legal)
        (tests.accounts_kept p (index_of p (e ∷ before)) run once
        (newest (HaveFates p) p e before ends (ended_fates p (e ∷ before) legal)) (events_named p (e ∷ before) legal)
        plain)
      where
        run : List Happening
        run = sub_run (history p (e ∷ before))

pub accounts_are_kept : (p : Settings) (backward : List Entry) → IsDistinct is_one_test (ids_of p.plan.tests)
    → IsLegalBackward p backward → is_over (history p backward) ≡ true → ArePlainTold (history p backward)
    → OfEachRun p (history p backward) (KeepsAccounts p) (map as_audited (told (history p backward)))
accounts_are_kept p backward once legal over plain =
    of_each p (KeepsAccounts p) backward legal over
    (λ i d low. tests_each p backward once legal i d low (each_event HasPlainStatus (history p backward) plain i d low))

-- what a part tells of setup scripts is due
scripts_so : (p : Settings) (e : Entry) (before : List Entry) → IsLegalBackward p (e ∷ before)
    → (happening p (history p before) e).ends ≡ true
    → scripts.TellsScripts p (index_of p (e ∷ before)) (sub_run (history p (e ∷ before)))
scripts_so p e before legal ends = record {
  named = events_named p (e ∷ before) legal;
  said = told_as_read p (e ∷ before) legal;
  fates = newest (λ run. (k : ℕ) → k < scripts_in p → HasScriptFate p run k) p e before ends
      (script_fates p (e ∷ before) legal);
  turn = one_by_one p (e ∷ before) legal;
  first = come_first p (e ∷ before) legal;
}

scripts_each : (p : Settings) (backward : List Entry) → IsLegalBackward p backward
    → All (λ run. All HasPlainStatus (told run) → KeepsScripts p run (sub_run_part p run))
    (ended_runs (history p backward))
scripts_each p backward legal =
    each_end (λ run. All HasPlainStatus (told run) → KeepsScripts p run (sub_run_part p run)) p at_end backward legal
  where
    at_end : (e : Entry) (before : List Entry) → IsLegalBackward p (e ∷ before)
        → (happening p (history p before) e).ends ≡ true
        → All HasPlainStatus (told (sub_run (history p (e ∷ before))))
        → KeepsScripts p (sub_run (history p (e ∷ before))) (sub_run_part p (sub_run (history p (e ∷ before))))
    at_end e before legal ends plain =
        part_keeps (KeepsScripts p run) p run (scripts.ignores p run) (around p (e ∷ before) legal)
        (scripts.scripts_kept p (index_of p (e ∷ before)) run (scripts_so p e before legal ends) plain)
      where
        run : List Happening
        run = sub_run (history p (e ∷ before))

-- so is what its sub-run tells of them, and of tests
pub scripts_were_told : (p : Settings) (backward : List Entry) → IsLegalBackward p backward
    → All (λ run. filter_map script_news (told run) ≡ flat_map (due_script p run) (range_with_len 0 (scripts_in p)))
    (ended_runs (history p backward))
scripts_were_told p backward legal =
    each_end (λ run. filter_map script_news (told run)
    ≡ flat_map (due_script p run) (range_with_len 0 (scripts_in p))) p
    (λ e before legal ends. scripts.news_due p (index_of p (e ∷ before)) (sub_run (history p (e ∷ before)))
    (scripts_so p e before legal ends)) backward legal

pub accounts_were_told : (p : Settings) (backward : List Entry) → IsDistinct is_one_test (ids_of p.plan.tests)
    → IsLegalBackward p backward
    → All (λ run. (j : ℕ) (test : PlanTest) → slice_get p.plan.tests j ≡ Some test
    → account_told test.id (told run) ≡ due_account p run (unit_of_test p j)) (ended_runs (history p backward))
accounts_were_told p backward once legal =
    each_end (λ run. (j : ℕ) (test : PlanTest) → slice_get p.plan.tests j ≡ Some test
    → account_told test.id (told run) ≡ due_account p run (unit_of_test p j)) p
    (λ e before legal ends. tests.accounts_due p (index_of p (e ∷ before)) (sub_run (history p (e ∷ before))) once
    (newest (HaveFates p) p e before ends (ended_fates p (e ∷ before) legal)) (events_named p (e ∷ before) legal))
    backward legal

pub scripts_are_kept : (p : Settings) (backward : List Entry) → IsLegalBackward p backward
    → is_over (history p backward) ≡ true → ArePlainTold (history p backward)
    → OfEachRun p (history p backward) (KeepsScripts p) (map as_audited (told (history p backward)))
scripts_are_kept p backward legal over plain =
    of_each p (KeepsScripts p) backward legal over
    (λ i d low. scripts_each p backward legal i d low (each_event HasPlainStatus (history p backward) plain i d low))

-- after each event of a part the limits are kept
limits_each : (p : Settings) (backward : List Entry) → IsDistinct is_one_test (ids_of p.plan.tests)
    → IsLegalBackward p backward → All (λ run. KeepsTold p (sub_run_part p run)) (ended_runs (history p backward))
limits_each p backward once legal =
    each_end (λ run. KeepsTold p (sub_run_part p run)) p at_end backward legal
  where
    at_end : (e : Entry) (before : List Entry) → IsLegalBackward p (e ∷ before)
        → (happening p (history p before) e).ends ≡ true
        → KeepsTold p (sub_run_part p (sub_run (history p (e ∷ before))))
    at_end e before legal ends =
        part_keeps (KeepsTold p) p run (limits.ignores p) (around p (e ∷ before) legal)
        (limits.limits_kept p (index_of p (e ∷ before)) (told run) once (events_named p (e ∷ before) legal)
        (at_most p (e ∷ before) legal) (λ n. plan_limits p (e ∷ before) n legal))
      where
        run : List Happening
        run = sub_run (history p (e ∷ before))

pub limits_are_kept : (p : Settings) (backward : List Entry) → IsDistinct is_one_test (ids_of p.plan.tests)
    → IsLegalBackward p backward → is_over (history p backward) ≡ true
    → All (KeepsTold p) (parts p (map as_audited (told (history p backward))))
limits_are_kept p backward once legal over =
    subst (All (KeepsTold p)) (sym (parts_told p backward legal over))
    (All-map (KeepsTold p) (sub_run_part p) (reverse (ended_runs (history p backward)))
    (all-reverse (λ run. KeepsTold p (sub_run_part p run)) (ended_runs (history p backward))
    (limits_each p backward once legal)))

-- so all of them are kept
pub told_is_kept : (p : Settings) (backward : List Entry) → IsDistinct is_one_test (ids_of p.plan.tests)
    → IsLegalBackward p backward → is_over (history p backward) ≡ true → ArePlainTold (history p backward)
    → KeepsRun p (history p backward) (map as_audited (told (history p backward)))
told_is_kept p backward once legal over plain law = record {
  shape = λ is. shape_kept p backward legal over;
  accounts = λ is. accounts_are_kept p backward once legal over plain;
  limits = λ is. limits_are_kept p backward once legal over;
  cancels = λ is. cancels_are_kept p backward legal over;
  scripts = λ is. scripts_are_kept p backward legal over plain;
}
