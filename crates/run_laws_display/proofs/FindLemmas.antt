-- What is told of a test that goes on finds it displayed, and its start doesn't.
use Rattle.std.proofs.Common.{◌≡◌, ℕ, ◌==◌, List, ◌∷◌, ◌++◌, true, false, if◌then◌else◌, Option, None, Some}
use Rattle.std.proofs.Common.{is_some, refl, ap, sym, subst, ◌∙◌, arith}
use Rattle.std.specs.Prelude.{IfSome}
use Rattle.std.specs.List.{All}
use Rattle.run_events.specs.declared.message.TestUnit.{TestUnit}
use Rattle.run_events.specs.declared.settings.Settings.{Settings}
use Rattle.run_events.specs.declared.stress.StressIndex.{StressIndex}
use Rattle.run_events.specs.declared.events.ReporterEvent.{ReporterEvent}
use Rattle.run_events.specs.declared.events.ReporterEvent.TheVariants.{Test}
use Rattle.run_events.specs.declared.events.TestEvent.{TestEvent}
use Rattle.run_events.specs.declared.events.TestEventKind.{TestEventKind}
use Rattle.run_events.specs.declared.events.TestEventKind.TheVariants as kinds
use Rattle.run_model.specs.declared.entry.Entry.{Entry}
use Rattle.run_model.specs.Accounts.{News, started, failed, retried, finished, account_of, news_in}
use Rattle.run_model.specs.Journal.{history, IsLegalBackward}
use Rattle.run_model.specs.Words.{told}
use Rattle.run_laws.specs.Reports.{SlowReport, report_of_kind}
use Rattle.run_laws_events.specs.Names.{IsTestNamed, NamesThePlanIn}
use Rattle.run_laws_events.proofs.Told.{All-before}
use Rattle.run_model.specs.Once.{HasEachIdOnce}
use Rattle.run_laws_display.specs.Displays.{FindsItsTest, tests_displayed, is_displayed, test_begun}
use Rattle.run_laws_display.specs.Displays.{test_going_on}
use Rattle.run_laws_display.proofs.CourseLemmas.{IsCourse, course_first, course_goes_on, course_shown, course_starts}
use Rattle.run_laws_display.proofs.CourseLemmas.{goes_on_by, runs_by}
use Rattle.run_laws_display.proofs.NewsLemmas.{displayed_news}
use Rattle.run_laws_display.proofs.SameLemmas.{test_planned, unit_named}
use Rattle.run_laws_display.proofs.SlowTold.{slows_found}
use Rattle.run_laws_display.proofs.SubRunLemmas.{IsInSubRun, in_sub_run}
use Rattle.run_laws_display.proofs.WholeLemmas.{NamesInSome, account_append, account_split, all_at, course_newest}
use Rattle.run_laws_display.proofs.WholeLemmas.{named_whole}

module _ (p : Settings) (once : HasEachIdOnce p) (before : List ReporterEvent) (event : TestEvent)
    (named_before : All (NamesInSome p) before) (run : IsInSubRun p before (Test event)) where
  course_at : (k : ℕ) → IsCourse (account_of k (run.earlier ++ Test event ∷ run.later))
  course_at k = subst (λ es. IsCourse (account_of k es)) run.is (course_newest p run.backward run.legal k)

  -- where news of a unit are told, what its sub-run told before them is a course that goes on with them
  course_with : (k : ℕ) (n : News) → news_in k event.kind ≡ Some n
      → IsCourse (account_of k run.earlier ++ n ∷ account_of k run.later)
  course_with k n so = subst IsCourse (account_split k run.earlier run.later event n so) (course_at k)

  course_before : (k : ℕ) → IsCourse (account_of k run.earlier)
  course_before k =
      course_first (account_of k run.earlier) (account_of k (Test event ∷ run.later))
      (subst IsCourse (account_append k run.earlier (Test event ∷ run.later)) (course_at k))

  -- the test of a unit is displayed before them where the unit runs
  displayed_as : (index : Option StressIndex) (unit : TestUnit) → IsTestNamed p index unit
      → is_displayed unit.id (tests_displayed before) ≡ runs_by (account_of unit.unit run.earlier)
  displayed_as index unit named =
      let it = unit_named p index unit named in
      ap (λ id. is_displayed id (tests_displayed before)) it.1.1
      ∙ displayed_news p unit.unit it.0 once it.1.0 before named_before
      ∙ run.same unit.unit (test_planned p unit.unit it.0 it.1.0)
      ∙ course_shown (account_of unit.unit run.earlier) (course_before unit.unit)

  goes_on : (index : Option StressIndex) (unit : TestUnit) (n : News) → IsTestNamed p index unit
      → news_in unit.unit event.kind ≡ Some n → goes_on_by n ≡ true
      → is_displayed unit.id (tests_displayed before) ≡ true
  goes_on index unit n named so on =
      displayed_as index unit named
      ∙ course_goes_on (account_of unit.unit run.earlier) (account_of unit.unit run.later) n on
      (course_with unit.unit n so)

  begins : (index : Option StressIndex) (unit : TestUnit) → IsTestNamed p index unit
      → news_in unit.unit event.kind ≡ Some started → is_displayed unit.id (tests_displayed before) ≡ false
  begins index unit named so =
      displayed_as index unit named
      ∙ course_starts (account_of unit.unit run.earlier) (account_of unit.unit run.later)
      (course_with unit.unit started so)

  is_slow : (index : Option StressIndex) (unit : TestUnit) (report : SlowReport) → IsTestNamed p index unit
      → report_of_kind unit.unit event.kind ≡ Some report
      → is_displayed unit.id (tests_displayed before) ≡ true
  is_slow index unit report named so =
      displayed_as index unit named
      ∙ slows_found p run.backward run.legal unit.unit run.earlier run.later (Test event) run.is (ap is_some so)

-- of a unit the news of its own
own_news : {X : Type 0} (k : ℕ) (x : X) → (if k == k then Some x else None) ≡ Some x
own_news k x = let itself : (k == k) ≡ true = grind arith in rw itself refl

pub finds_test : (p : Settings) (backward : List Entry) → HasEachIdOnce p → IsLegalBackward p backward
    → (before after : List ReporterEvent) (event : TestEvent)
    → told (history p backward) ≡ before ++ Test event ∷ after → FindsItsTest before event
finds_test p backward once legal before after event is =
    by_kind event.kind refl it.1
  where
    named_all : All (NamesInSome p) (before ++ Test event ∷ after)
    named_all = subst (All (NamesInSome p)) is (named_whole p backward legal)

    it : NamesInSome p (Test event)
    it = all_at (NamesInSome p) before after (Test event) named_all

    index : Option StressIndex
    index = it.0

    named_before : All (NamesInSome p) before
    named_before = All-before (NamesInSome p) before (Test event ∷ after) named_all

    run : IsInSubRun p before (Test event)
    run = in_sub_run p backward legal before after (Test event) is

    on : (unit : TestUnit) (n : News) → IsTestNamed p index unit → news_in unit.unit event.kind ≡ Some n
        → goes_on_by n ≡ true → is_displayed unit.id (tests_displayed before) ≡ true
    on = goes_on p once before event named_before run index

    Finds : TestEventKind → Type 0
    Finds kind = IfSome (test_begun kind) (λ id. is_displayed id (tests_displayed before) ≡ false)
        × IfSome (test_going_on kind) (λ id. is_displayed id (tests_displayed before) ≡ true)

    news : (k : ℕ) (kind : TestEventKind) (n : News) → event.kind ≡ kind → news_in k kind ≡ Some n
        → news_in k event.kind ≡ Some n
    news k kind n e own = ap (news_in k) e ∙ own

    finds : (kind : TestEventKind) → event.kind ≡ kind → NamesThePlanIn p index kind → Finds kind
    finds (kinds.TestStarted t) e named = (
      begins p once before event named_before run index t.start.test named
          (news t.start.test.unit _ started e (own_news t.start.test.unit started)),
      tt,
    )
    finds (kinds.TestSlow t) e named = (
      tt,
      is_slow p once before event named_before run index t.test
          (record { attempt = t.attempt; elapsed = t.elapsed_slow; terminates = t.terminates }) named
          (ap (report_of_kind t.test.unit) e ∙ own_news t.test.unit _),
    )
    finds (kinds.TestAttemptFailedWillRetry t) e named = (
      tt,
      on t.failed.test (failed t.failed.status) named
          (news t.failed.test.unit _ (failed t.failed.status) e
          (own_news t.failed.test.unit (failed t.failed.status))) refl,
    )
    finds (kinds.TestRetryStarted t) e named = (
      tt,
      on t.retry.start.test (retried t.retry.attempt) named
          (news t.retry.start.test.unit _ (retried t.retry.attempt) e
          (own_news t.retry.start.test.unit (retried t.retry.attempt))) refl,
    )
    finds (kinds.TestFinished t) e named = (
      tt,
      on t.finish.test (finished t.finish.statuses) named
          (news t.finish.test.unit _ (finished t.finish.statuses) e
          (own_news t.finish.test.unit (finished t.finish.statuses))) refl,
    )
    finds kind e named = (tt, tt)

    by_kind : (kind : TestEventKind) → event.kind ≡ kind → NamesThePlanIn p index event.kind
        → FindsItsTest before event
    by_kind kind e named =
        let found = finds kind e (subst (NamesThePlanIn p index) e named) in
        record {
          begun = subst (λ kind. IfSome (test_begun kind) (λ id. is_displayed id (tests_displayed before) ≡ false))
              (sym e) found.0;
          going_on = subst (λ kind. IfSome (test_going_on kind) (λ id. is_displayed id (tests_displayed before) ≡ true))
              (sym e) found.1;
        }
