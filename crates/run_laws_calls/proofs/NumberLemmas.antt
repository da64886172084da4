-- Each event is of a script or a test of the plan.
use Rattle.std.proofs.Common.{◌≡◌, ℕ, ◌==◌, ◌<◌, ◌≤◌, nat_lt, List, [], ◌∷◌, ◌++◌, Bool, true, false, if◌then◌else◌}
use Rattle.std.proofs.Common.{Option, Some, None, is_some, filter_map, refl, ap, sym, subst, ◌∙◌, arith}
use Rattle.std.specs.Prelude.{IfSome}
use Rattle.std.specs.List.{All, cons_option, list_any}
use Rattle.std.proofs.lemmas.Bool.Decides.{nat_tests}
use Rattle.std.proofs.lemmas.List.Elements.{All-nil, All-cons, All-weaker}
use Rattle.std.proofs.lemmas.List.Folds.{list_any_none}
use Rattle.run_capture.proofs.Facts.{first_none}
use Rattle.run_events.specs.declared.events.ReporterEvent.{ReporterEvent}
use Rattle.run_events.specs.declared.events.ReporterEvent.TheVariants.{Tick, Test}
use Rattle.run_events.specs.declared.events.TestEventKind.{TestEventKind}
use Rattle.run_events.specs.declared.events.TestEventKind.TheVariants.{TestStarted, TestSlow}
use Rattle.run_events.specs.declared.events.TestEventKind.TheVariants.{TestAttemptFailedWillRetry}
use Rattle.run_events.specs.declared.events.TestEventKind.TheVariants.{TestRetryStarted, TestFinished, TestSkipped}
use Rattle.run_events.specs.declared.settings.Settings.{Settings}
use Rattle.run_model.specs.declared.entry.Entry.{Entry}
use Rattle.run_model.specs.declared.happening.Happening.{Happening}
use Rattle.run_model.specs.declared.unit_view.UnitView.{UnitView}
use Rattle.run_model.specs.Accounts.{HasAccount, account_of, is_mismatched, news_in, news_of, pending_of}
use Rattle.run_model.specs.Admission.{scripts_in, unit_terms, units_in}
use Rattle.run_model.specs.Journal.{IsLegalBackward, history}
use Rattle.run_model.specs.Story.{pieces, story_of, was_left}
use Rattle.run_model.specs.Words.{clock, queue, sub_run, told, unit_of}
use Rattle.run_laws.specs.Reports.{report_of, report_of_kind, reports_by, reports_told, reports_waiting}
use Rattle.run_laws.proofs.units.AttemptLemmas.{IsMadeIf}
use Rattle.run_laws.proofs.units.AccountRows.{same_number}
use Rattle.run_laws.proofs.board.Holds.{Holds}
use Rattle.run_laws.proofs.board.Kept.{holds}
use Rattle.run_laws_calls.specs.Numbers.{HasNumber, script_number, test_number_in, test_number}
use Rattle.run_laws_calls.proofs.OwnLemmas.{HasKind}
use Rattle.run_laws_calls.proofs.ToldLemmas.{each_told, kinds}

inside : (p : Settings) (k : ℕ) → (units_in p ≤ k → ⊥) → k < units_in p
inside p k never = by_plan (nat_lt k (units_in p)) refl
  where
    by_plan : (b : Bool) → nat_lt k (units_in p) ≡ b → k < units_in p
    by_plan true e = grind (arith, nat_tests)
    by_plan false e = absurd (never (grind (arith, nat_tests)))

-- of a number beyond the plan nothing is told
unknown : (p : Settings) (now : ℕ) (run : List Happening) (k : ℕ) → Holds p now run → units_in p ≤ k
    → unit_of k run ≡ None
unknown p now run k h out = by_unit (unit_of k run) refl
  where
    by_unit : (v : Option UnitView) → unit_of k run ≡ v → v ≡ None
    by_unit None is = refl
    by_unit (Some u) is = let low : k < units_in p = (h.named k u is).1 in absurd (omega (arith, low, out))

-- none of a list gives anything
none_each : {X Y : Type 0} (f : X → Option Y) (xs : List X) → filter_map f xs ≡ [] → All (λ x. f x ≡ None) xs
none_each f [] e = All-nil (λ x. f x ≡ None)
none_each {Y = Y} f (x ∷ xs) e = by_head (f x) refl e (none_each f xs)
  where
    by_head : (o : Option Y) → f x ≡ o → cons_option o (filter_map f xs) ≡ []
        → (filter_map f xs ≡ [] → All (λ x. f x ≡ None) xs) → All (λ x. f x ≡ None) (x ∷ xs)
    by_head None is e rest = All-cons (λ x. f x ≡ None) x xs is (rest e)
    by_head (Some y) is e rest = cc

-- an event says nothing of numbers beyond the plan
abbrev IsInside : Settings → ReporterEvent → Type 0
IsInside p e = (k : ℕ) → units_in p ≤ k → (news_of k e ≡ None) × (report_of k e ≡ None)

all_inside : (p : Settings) (now : ℕ) (run : List Happening) → Holds p now run
    → All (IsInside p) (told run)
all_inside p now run h i d low k out = (
  none_each (news_of k) (told run) no_news i d low,
  none_each (report_of k) (told run) no_reports i d low,
)
  where
    none : unit_of k run ≡ None
    none = unknown p now run k h out

    no_news : account_of k (told run) ≡ []
    no_news = (subst (λ v. HasAccount (is_mismatched p k) (was_left k run) v (account_of k (told run))
        (pending_of k (queue run))) none (h.accounts k)).0

    no_story : story_of k run ≡ []
    no_story = subst (λ v. IsMadeIf (unit_terms p k) v (story_of k run)) none (h.made k)

    no_reports : reports_told k (told run) ≡ []
    no_reports = first_none (reports_told k (told run)) (reports_waiting k (queue run))
        ((h.reported k).reports ∙ ap (λ story. reports_by (unit_terms p k).slow (pieces story)) no_story)

-- so the test of which it tells is one of the plan
clash : {Y : Type 0} (k : ℕ) (y : Y) → (if k == k then Some y else None) ≡ None → ⊥
clash k y e = let never : Some y ≡ None = sym (ap (λ b. if b then Some y else None) (same_number k)) ∙ e in cc

kind_inside : (p : Settings) (kind : TestEventKind)
    → ((k : ℕ) → units_in p ≤ k → (news_in k kind ≡ None) × (report_of_kind k kind ≡ None))
    → IfSome (test_number_in kind) (λ k. k < units_in p)
kind_inside p (TestStarted e) h = inside p e.start.test.unit (λ out. clash _ _ (h e.start.test.unit out).0)
kind_inside p (TestSlow e) h = inside p e.test.unit (λ out. clash _ _ (h e.test.unit out).1)
kind_inside p (TestAttemptFailedWillRetry e) h =
    inside p e.failed.test.unit (λ out. clash _ _ (h e.failed.test.unit out).0)
kind_inside p (TestRetryStarted e) h =
    inside p e.retry.start.test.unit (λ out. clash _ _ (h e.retry.start.test.unit out).0)
kind_inside p (TestFinished e) h = inside p e.finish.test.unit (λ out. clash _ _ (h e.finish.test.unit out).0)
kind_inside p (TestSkipped e) h = inside p e.test.unit (λ out. clash _ _ (h e.test.unit out).0)
kind_inside p kind h = tt

test_inside : (p : Settings) (e : ReporterEvent) → IsInside p e → IfSome (test_number e) (λ k. k < units_in p)
test_inside p Tick h = tt
test_inside p (Test e) h = kind_inside p e.kind h

both_hold : (o : Option ℕ) (P Q : ℕ → Type 0) → IfSome o P → IfSome o Q → IfSome o (λ k. P k × Q k)
both_hold None P Q a b = tt
both_hold (Some k) P Q a b = (a, b)

pub numbered : (p : Settings) (backward : List Entry) → IsLegalBackward p backward
    → All (HasNumber p) (told (history p backward))
numbered p backward legal i d low = number _ (kinds p backward legal i d low) (of_plan i d low)
  where
    of_plan : All (IsInside p) (told (history p backward))
    of_plan = each_told (IsInside p) p (λ backward legal. all_inside p (clock (history p backward))
        (sub_run (history p backward)) (holds p backward legal)) backward legal

    number : (e : ReporterEvent) → HasKind p e → IsInside p e → HasNumber p e
    number e kind plan = record {
      script = kind.script;
      test = both_hold (test_number e) (λ k. scripts_in p ≤ k) (λ k. k < units_in p) kind.test (test_inside p e plan);
    }

-- so none is of a script where there is none
none_of : (p : Settings) (e : ReporterEvent) → scripts_in p ≡ 0 → HasNumber p e → is_some (script_number e) ≡ false
none_of p e none has = by_script (script_number e) has.script
  where
    by_script : (o : Option ℕ) → IfSome o (λ k. k < scripts_in p) → is_some o ≡ false
    by_script None below = refl
    by_script (Some k) below = absurd (omega (arith, none))

pub none_of_scripts : (p : Settings) (backward : List Entry) → IsLegalBackward p backward → scripts_in p ≡ 0
    → list_any (λ e. is_some (script_number e)) (told (history p backward)) ≡ false
none_of_scripts p backward legal none =
    list_any_none (λ e. is_some (script_number e)) (told (history p backward))
    (All-weaker (HasNumber p) (λ e. is_some (script_number e) ≡ false) (λ e has. none_of p e none has)
    (told (history p backward)) (numbered p backward legal))
