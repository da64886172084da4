-- The machine of the tests' accounts accepts just the events that keep their law, and leads to an end.
use Rattle.std.specs.Prelude.{IfSome, filter_map, slice_get}
use Rattle.std.proofs.Common.{◌≡◌, ◌∙◌, ◌↔◌, ℕ, zero, suc, ◌+◌, List, [], ◌∷◌, map, reverse, Option, Some, None, Bool}
use Rattle.std.proofs.Common.{true, false, is_some, refl, sym, ap, ap₂, subst, true≢false, arith}
use Rattle.std.specs.List.{All, cons_option, list_any}
use Rattle.std.proofs.lemmas.Bool.{or_cases, or_left, or_right, and_from}
use Rattle.std.proofs.lemmas.List.Elements.{All-weaker}
use Rattle.std.proofs.Common.{⊎_elim, eq-eqb, nat_eq}
use Rattle.std.proofs.Common.{eqb-true, map-id}
use lib.Pointwise.{pointwise, pointwise_decides}
use Rattle.std.proofs.lemmas.Option.{same_Some}
use Rattle.run_events.specs.declared.plan.PlanTest.{PlanTest}
use Rattle.run_events.specs.declared.plan.TestInstanceId.{TestInstanceId}
use Rattle.run_events.specs.declared.settings.Settings.{Settings}
use Rattle.run_model.specs.declared.happening.Happening.{Happening}
use Rattle.run_model.specs.Admission.{unit_of_test}
use Rattle.run_model.specs.Reruns.{is_one_test}
use Rattle.run_model.specs.Words.{ended_runs}
use Rattle.run_audit_model.specs.Kept.{OfEachRun}
use Rattle.run_audit_model.specs.Parts.{is_stress, parts}
use Rattle.run_audit_model.specs.Places.{Completes}
use Rattle.run_audit_model.specs.SeenTests.{IsSeenOfPlan, KeepsAccounts, TestNews, began, due_account, failed}
use Rattle.run_audit_model.specs.SeenTests.{finished, news_if, retried, seen_account, seen_test, skipped}
use Rattle.run_audit_model.specs.Statuses.{Compared}
use Rattle.run_audit_model.specs.declared.audit_event.AuditEvent.{AuditEvent}
use Rattle.run_audit_machines.specs.Accounts.{CanTellEach, TellsAccounts, TellsEach, accounts_machine, accounts_seen}
use Rattle.run_audit_machines.specs.Accounts.{is_told_of, names_in, told_under}
use Rattle.run_audit_machines.specs.Machines.{HoldsInParts, InParts, PartCompletes, first_state, one_each}
use Rattle.run_audit_machines.specs.Tests.{CanTellTests, TestPart, accounts_from, accounts_of, same_news, test_machine}
use Rattle.run_audit_machines.specs.Tests.{test_part}
use Rattle.run_audit_machines.proofs.AccountLemmas.{accounts_complete, accounts_just}
use Rattle.run_audit_machines.specs.Machines.{AcceptsJust, IsSame}
use Rattle.run_audit_machines.proofs.AccountSeenLemmas.{accounts_stand}
use Rattle.run_audit_machines.proofs.MachineLemmas.{seen_completes, seen_just}
use Rattle.run_audit_machines.proofs.RunLemmas.{listed_completes, pairs_same, runs_just}

-- ---- two tell the same just where they are the same

other_news : (a b : TestNews) → (a ≡ b → ⊥) → (false ≡ true) ↔ (a ≡ b)
other_news a b h = (λ is. absurd (true≢false (sym is)), λ is. absurd (h is))

failed_of : (s t : Compared) → failed s ≡ failed t → s ≡ t
failed_of s t h = cc

retried_of : (a b : ℕ) → retried a ≡ retried b → a ≡ b
retried_of a b h = cc

finished_of : (ss ts : List Compared) → finished ss ≡ finished ts → ss ≡ ts
finished_of ss ts h = cc

pub news_same : (same : Compared → Compared → Bool) → IsSame same → IsSame (same_news same)
news_same same is_same began began = (λ h. refl, λ h. refl)
news_same same is_same (failed s) (failed t) =
    (λ h. ap failed ((is_same s t).0 h), λ h. (is_same s t).1 (failed_of s t h))
news_same same is_same (retried a) (retried b) = (λ h. ap retried (eqb-true a b h), λ h. eq-eqb a b (retried_of a b h))
news_same same is_same (finished ss) (finished ts) =
    let all = pointwise_decides is_same ss ts in
    (λ h. ap finished (all.0 h), λ h. all.1 (finished_of ss ts h))
news_same same is_same skipped skipped = (λ h. refl, λ h. refl)
news_same same is_same began (failed t) = other_news began (failed t) (λ h. cc)
news_same same is_same began (retried b) = other_news began (retried b) (λ h. cc)
news_same same is_same began (finished ts) = other_news began (finished ts) (λ h. cc)
news_same same is_same began skipped = other_news began skipped (λ h. cc)
news_same same is_same (failed s) began = other_news (failed s) began (λ h. cc)
news_same same is_same (failed s) (retried b) = other_news (failed s) (retried b) (λ h. cc)
news_same same is_same (failed s) (finished ts) = other_news (failed s) (finished ts) (λ h. cc)
news_same same is_same (failed s) skipped = other_news (failed s) skipped (λ h. cc)
news_same same is_same (retried a) began = other_news (retried a) began (λ h. cc)
news_same same is_same (retried a) (failed t) = other_news (retried a) (failed t) (λ h. cc)
news_same same is_same (retried a) (finished ts) = other_news (retried a) (finished ts) (λ h. cc)
news_same same is_same (retried a) skipped = other_news (retried a) skipped (λ h. cc)
news_same same is_same (finished ss) began = other_news (finished ss) began (λ h. cc)
news_same same is_same (finished ss) (failed t) = other_news (finished ss) (failed t) (λ h. cc)
news_same same is_same (finished ss) (retried b) = other_news (finished ss) (retried b) (λ h. cc)
news_same same is_same (finished ss) skipped = other_news (finished ss) skipped (λ h. cc)
news_same same is_same skipped began = other_news skipped began (λ h. cc)
news_same same is_same skipped (failed t) = other_news skipped (failed t) (λ h. cc)
news_same same is_same skipped (retried b) = other_news skipped (retried b) (λ h. cc)
news_same same is_same skipped (finished ts) = other_news skipped (finished ts) (λ h. cc)

-- ---- what is told of a test, in two spellings

told_same : (name : TestInstanceId) (o : Option (TestInstanceId × TestNews))
    → told_under is_one_test name o ≡ news_if name o
told_same name None = refl
told_same name (Some told) = refl

filter_map_same : {X Y : Type 0} (f g : X → Option Y) → ((x : X) → f x ≡ g x) → (xs : List X)
    → filter_map f xs ≡ filter_map g xs
filter_map_same f g h [] = refl
filter_map_same f g h (x ∷ xs) = ap₂ cons_option (h x) (filter_map_same f g h xs)

account_told : (name : TestInstanceId) (part : List AuditEvent)
    → filter_map (λ e. told_under is_one_test name (seen_test e)) part ≡ seen_account name part
account_told name part = filter_map_same (λ e. told_under is_one_test name (seen_test e)) (λ e. news_if name
    (seen_test e))
    (λ e. told_same name (seen_test e)) part

-- ---- the tests of a plan from a place on

abbrev EachFrom : Settings → List Happening → List AuditEvent → ℕ → List PlanTest → Type 0
EachFrom p run part n tests = (j : ℕ) (test : PlanTest) → slice_get tests j ≡ Some test
    → seen_account test.id part ≡ due_account p run (unit_of_test p (n + j))

each_to : (p : Settings) (run : List Happening) (part : List AuditEvent) (n : ℕ) (tests : List PlanTest)
    → TellsEach is_one_test seen_test part (accounts_from p run n tests) → EachFrom p run part n tests
each_to p run part n [] h j test is = absurd (true≢false (ap is_some (sym is)))
each_to p run part n (t ∷ tests) h zero test is =
    let here : n + 0 ≡ n = omega arith in
    subst (λ x. seen_account x.id part ≡ due_account p run (unit_of_test p (n + 0))) (same_Some t test is)
    (sym (account_told t.id part) ∙ h.0 ∙ ap (λ k. due_account p run (unit_of_test p k)) (sym here))
each_to p run part n (t ∷ tests) h (suc j) test is =
    let there : suc n + j ≡ n + suc j = omega arith in
    each_to p run part (suc n) tests h.1 j test is ∙ ap (λ k. due_account p run (unit_of_test p k)) there

each_from : (p : Settings) (run : List Happening) (part : List AuditEvent) (n : ℕ) (tests : List PlanTest)
    → EachFrom p run part n tests → TellsEach is_one_test seen_test part (accounts_from p run n tests)
each_from p run part n [] h = tt
each_from p run part n (t ∷ tests) h =
    let here : n + 0 ≡ n = omega arith in (
      account_told t.id part ∙ h 0 t refl ∙ ap (λ k. due_account p run (unit_of_test p k)) here,
      each_from p run part (suc n) tests (λ j test is.
          let there : n + suc j ≡ suc n + j = omega arith in
          h (suc j) test is ∙ ap (λ k. due_account p run (unit_of_test p k)) there),
    )

-- ---- what is told is of one of them

abbrev OneOf : List PlanTest → TestInstanceId → Type 0
OneOf tests name = (j : ℕ) × (test : PlanTest) × (slice_get tests j ≡ Some test) × (is_one_test name test.id ≡ true)

one_later : (t : PlanTest) (tests : List PlanTest) (name : TestInstanceId) → OneOf tests name → OneOf (t ∷ tests) name
one_later t tests name h = (suc h.0, h.1, h.2, h.3)

any_to : (p : Settings) (run : List Happening) (n : ℕ) (tests : List PlanTest) (name : TestInstanceId)
    → list_any (is_one_test name) (names_in (accounts_from p run n tests)) ≡ true → OneOf tests name
any_to p run n [] name is = absurd (true≢false (sym is))
any_to p run n (t ∷ tests) name is =
    ⊎_elim (λ h. (0, t, refl, h)) (λ h. one_later t tests name (any_to p run (suc n) tests name h))
    (or_cases (is_one_test name t.id) (list_any (is_one_test name) (names_in (accounts_from p run (suc n) tests))) is)

any_from : (p : Settings) (run : List Happening) (n : ℕ) (tests : List PlanTest) (name : TestInstanceId) (j : ℕ)
    (test : PlanTest) → slice_get tests j ≡ Some test → is_one_test name test.id ≡ true
    → list_any (is_one_test name) (names_in (accounts_from p run n tests)) ≡ true
any_from p run n [] name j test is one = absurd (true≢false (ap is_some (sym is)))
any_from p run n (t ∷ tests) name zero test is one =
    or_left (is_one_test name t.id) _ (ap (λ x. is_one_test name x.id) (same_Some t test is) ∙ one)
any_from p run n (t ∷ tests) name (suc j) test is one =
    or_right (is_one_test name t.id) _ (any_from p run (suc n) tests name j test is one)

abbrev IsOfPlan : Settings → Option (TestInstanceId × TestNews) → Type 0
IsOfPlan p o = IfSome o (λ told. OneOf p.plan.tests told.0)

plan_to : (p : Settings) (run : List Happening) (o : Option (TestInstanceId × TestNews))
    → is_told_of is_one_test (names_in (accounts_of p run)) o ≡ true → IsOfPlan p o
plan_to p run None is = tt
plan_to p run (Some told) is = any_to p run 0 p.plan.tests told.0 is

plan_from : (p : Settings) (run : List Happening) (o : Option (TestInstanceId × TestNews)) → IsOfPlan p o
    → is_told_of is_one_test (names_in (accounts_of p run)) o ≡ true
plan_from p run None h = refl
plan_from p run (Some told) h = any_from p run 0 p.plan.tests told.0 h.0 h.1 h.2 h.3

-- ---- a part

from_none : (j : ℕ) → 0 + j ≡ j
from_none j = omega arith

told_to : (p : Settings) (run : List Happening) (accounts : TestPart TestNews) → accounts ≡ accounts_of p run
    → (part : List AuditEvent) → TellsAccounts is_one_test seen_test accounts part ↔ KeepsAccounts p run part
told_to p run accounts are_due part =
    let names = names_in (accounts_of p run) in (
      λ a. let h = subst (λ l. TellsAccounts is_one_test seen_test l part) are_due a in record {
        each = λ j test is.
            each_to p run part 0 p.plan.tests h.0 j test is ∙ ap (λ k. due_account p run (unit_of_test p k))
            (from_none j);
        planned = All-weaker (λ e. is_told_of is_one_test names (seen_test e) ≡ true) (IsSeenOfPlan p)
            (λ e. plan_to p run (seen_test e)) part h.1;
      },
      λ k. subst (λ l. TellsAccounts is_one_test seen_test l part) (sym are_due) (
        each_from p run part 0 p.plan.tests (λ j test is.
            k.each j test is ∙ ap (λ k. due_account p run (unit_of_test p k)) (sym (from_none j))),
        All-weaker (IsSeenOfPlan p) (λ e. is_told_of is_one_test names (seen_test e) ≡ true)
            (λ e. plan_from p run (seen_test e)) part k.planned,
      ),
    )

abbrev Tells : {Y : Type 0} → (Y → TestNews) → TestPart Y → List AuditEvent → Type 0
Tells news accounts part = TellsAccounts is_one_test seen_test (accounts_seen news accounts) part

test_just : {Y : Type 0} (news : Y → TestNews) (same : TestNews → TestNews → Bool) → IsSame same
    → (accounts : TestPart Y) → AcceptsJust (test_part news same) accounts (Tells news accounts)
test_just news same is_same accounts = seen_just (accounts_seen news) (test_part news same)
    (accounts_machine is_one_test same seen_test) (accounts_stand is_one_test news same seen_test) accounts
    (Tells news accounts) (accounts_just is_one_test same is_same seen_test (accounts_seen news accounts))

same_numbers : (xs : List ℕ) → pointwise nat_eq xs xs ≡ true
same_numbers [] = refl
same_numbers (x ∷ xs) = and_from (nat_eq x x) (pointwise nat_eq xs xs) (eq-eqb x x refl) (same_numbers xs)

pub one_itself : (name : TestInstanceId) → is_one_test name name ≡ true
one_itself name = and_from (pointwise nat_eq name.binary name.binary) (pointwise nat_eq name.name name.name)
    (same_numbers name.binary) (same_numbers name.name)

pub test_completes : {Y : Type 0} (news : Y → TestNews) (same : TestNews → TestNews → Bool) → IsSame same
    → PartCompletes (test_part news same) (CanTellTests news)
test_completes news same is_same = seen_completes (accounts_seen news) (test_part news same)
    (accounts_machine is_one_test same seen_test) (accounts_stand is_one_test news same seen_test)
    (CanTellEach is_one_test seen_test) (accounts_complete is_one_test same is_same one_itself seen_test)

-- ---- the run

pub accounts_are_law : {Y : Type 0} (news : Y → TestNews) (same : TestNews → TestNews → Bool) → IsSame same
    → (p : Settings) (past : List Happening) (dues : List (TestPart Y))
    → map (accounts_seen news) dues ≡ map (accounts_of p) (reverse (ended_runs past))
    → (now : InParts (TestPart Y) (List (TestPart Y))) → first_state one_each (is_stress p) dues ≡ Some now
    → AcceptsJust (test_machine news same) now (OfEachRun p past (KeepsAccounts p))
accounts_are_law news same is_same p past dues are_due now is events =
    let runs = reverse (ended_runs past) in
    let whole = runs_just (test_part news same) (λ due. due) (Tells news) (test_just news same is_same)
    (is_stress p) dues now (ap (first_state one_each (is_stress p)) (map-id dues) ∙ is) events in
    let each = pairs_same (accounts_seen news) (accounts_of p) (Tells news) (KeepsAccounts p)
    (λ due run is_due part. told_to p run (accounts_seen news due) is_due part) dues runs are_due (parts p events) in
    (λ a. each.0 (whole.0 a), λ k. whole.1 (each.1 k))

pub tests_complete : {Y : Type 0} (news : Y → TestNews) (same : TestNews → TestNews → Bool) → IsSame same
    → Completes (test_machine news same) (HoldsInParts (CanTellTests news) (All (CanTellTests news)))
tests_complete news same is_same =
    listed_completes (test_part news same) (CanTellTests news) (test_completes news same is_same)
