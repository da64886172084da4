-- What is due of the setup scripts and of each test in each sub-run was told in its part.
use Rattle.std.proofs.Common.{get_or, ◌≡◌, ◌∙◌, ℕ, List, [], ◌∷◌, map, reverse, filter_map, Some, None}
use Rattle.std.proofs.Common.{slice_get}
use Rattle.std.proofs.Common.{arith}
use Rattle.std.proofs.Common.{refl, ap}
use Rattle.run_events.specs.declared.events.ReporterEvent.{ReporterEvent}
use Rattle.run_events.specs.declared.events.ReporterEvent.TheVariants.{Tick, Test}
use Rattle.run_events.specs.declared.events.TestEventKind.{TestEventKind}
use Rattle.run_events.specs.declared.events.TestEventKind.TheVariants.{SetupScriptFinished, SetupScriptStarted}
use Rattle.run_events.specs.declared.events.TestEventKind.TheVariants.{TestAttemptFailedWillRetry, TestFinished}
use Rattle.run_events.specs.declared.events.TestEventKind.TheVariants.{TestRetryStarted, TestSkipped, TestStarted}
use Rattle.run_events.specs.declared.plan.PlanTest.{PlanTest}
use Rattle.run_events.specs.declared.plan.TestInstanceId.{TestInstanceId}
use Rattle.run_events.specs.declared.settings.Settings.{Settings}
use Rattle.run_model.specs.declared.entry.Entry.{Entry}
use Rattle.run_model.specs.declared.happening.Happening.{Happening}
use Rattle.run_model.specs.Admission.{unit_of_test}
use Rattle.run_model.specs.Journal.{past_of}
use Rattle.run_model.specs.Words.{ended_runs, told}
use Rattle.run_audit_model.specs.Seen.{audited_kind}
use Rattle.run_audit_model.specs.SeenTests.{due_account}
use Rattle.run_audit_machines.specs.Scripts.{due_scripts}
use Rattle.run_audit_machines.specs.Tests.{accounts_of}
use Rattle.run_laws_audit.specs.Due.{account_told, script_news, test_news}
use Rattle.run_laws_audit.specs.Split.{news_by_part}
use Rattle.run_laws_audit.proofs.AllKept.{accounts_were_told, scripts_were_told}
use Rattle.run_laws_audit.proofs.EdgeLemmas.{IsEdge}
use Rattle.run_laws_audit.proofs.EndedLemmas.{all-reverse}
use Rattle.run_laws_audit.proofs.SplitLemmas.{IsOfNoEdge}
use Rattle.run_audit.specs.Needs.{AreNeedsOf, HasToldAll}
use Rattle.run_audit.specs.Told.{accounts_by_part, accounts_told, no_accounts}
use Rattle.run_audit.specs.declared.needs.Needs.{Needs}
use Rattle.run_audit.proofs.AccountLemmas.{run_accounts, split_accounts}
use Rattle.run_audit.proofs.StopLemmas.{same_each, split_so}

-- no edge tells of a script, or of a test
script_none : IsOfNoEdge script_news
script_none Tick edge = absurd edge
script_none (Test event) edge = by_kind event.kind edge
  where
    by_kind : (kind : TestEventKind) → IsEdge (audited_kind kind)
        → script_news (Test (record event { kind = kind })) ≡ None
    by_kind (SetupScriptStarted start) edge = absurd edge
    by_kind (SetupScriptFinished finish) edge = absurd edge
    by_kind kind edge = refl

test_none : IsOfNoEdge test_news
test_none Tick edge = absurd edge
test_none (Test event) edge = by_kind event.kind edge
  where
    by_kind : (kind : TestEventKind) → IsEdge (audited_kind kind)
        → test_news (Test (record event { kind = kind })) ≡ None
    by_kind (TestStarted own) edge = absurd edge
    by_kind (TestAttemptFailedWillRetry own) edge = absurd edge
    by_kind (TestRetryStarted own) edge = absurd edge
    by_kind (TestFinished own) edge = absurd edge
    by_kind (TestSkipped own) edge = absurd edge
    by_kind kind edge = refl

pub scripts_by_part : (needs : Needs) (events : List ReporterEvent) (p : Settings) (journal : List Entry)
    → AreNeedsOf p needs → HasToldAll p journal events
    → news_by_part needs.stress script_news [] events ≡ map (due_scripts p) (reverse (ended_runs (past_of p journal)))
scripts_by_part needs events p journal of has =
    split_so script_news script_none needs events p journal of has
    ∙ same_each (λ run. filter_map script_news (told run)) (due_scripts p) (reverse runs)
    (all-reverse (λ run. filter_map script_news (told run) ≡ due_scripts p run) runs
    (scripts_were_told p (reverse journal) has.legal))
  where
    runs : List (List Happening)
    runs = ended_runs (past_of p journal)

-- a map of a map
map_twice : {X Y Z : Type 0} (f : Y → Z) (g : X → Y) (xs : List X) → map f (map g xs) ≡ map (λ x. f (g x)) xs
map_twice f g [] = refl
map_twice f g (x ∷ xs) = ap (λ ys. f (g x) ∷ ys) (map_twice f g xs)

-- what a sub-run tells of each test is due of it
account_each : (p : Settings) (ids : List TestInstanceId) → ids ≡ map (λ (test : PlanTest). test.id) p.plan.tests
    → (run : List Happening) → ((j : ℕ) (test : PlanTest) → slice_get p.plan.tests j ≡ Some test
    → account_told test.id (told run) ≡ due_account p run (unit_of_test p j))
    → accounts_told ids (filter_map test_news (told run)) ≡ accounts_of p run
account_each p ids is run each =
    ap (λ ids. accounts_told ids (filter_map test_news (told run))) is
    ∙ run_accounts p run 0 p.plan.tests (λ i test there. each i test there
    ∙ ap (λ n. due_account p run (unit_of_test p n)) (omega arith))

pub accounts_so : (needs : Needs) (events : List ReporterEvent) (p : Settings) (journal : List Entry)
    → AreNeedsOf p needs → HasToldAll p journal events
    → accounts_by_part needs.stress needs.places (no_accounts needs.places) events
    ≡ map (accounts_of p) (reverse (ended_runs (past_of p journal)))
accounts_so needs events p journal of has =
    split_accounts needs.stress needs.places [] events
    ∙ ap (map (accounts_told needs.places)) (split_so test_news test_none needs events p journal of has)
    ∙ map_twice (accounts_told needs.places) (λ run. filter_map test_news (told run)) (reverse runs)
    ∙ same_each (λ run. accounts_told needs.places (filter_map test_news (told run))) (accounts_of p) (reverse runs)
    (all-reverse (λ run. accounts_told needs.places (filter_map test_news (told run)) ≡ accounts_of p run) runs
    (λ i d low. account_each p needs.places of.places (get_or runs i d)
    (λ j test there. accounts_were_told p (reverse journal) of.once has.legal i d low j test there)))
  where
    runs : List (List Happening)
    runs = ended_runs (past_of p journal)
