-- A sub-run tells of each test of the plan what is due of it, and of no other test.
use Rattle.std.proofs.Common.{◌≡◌, ℕ, ◌==◌, List, map, Bool, true, false, if◌then◌else◌, Option}
use Rattle.std.proofs.Common.{Some, None, option_map, filter_map, slice_get, refl, ap, sym, subst, ◌∙◌}
use Rattle.std.specs.Prelude.{IfSome}
use Rattle.std.specs.List.{All, IsDistinct}
use Rattle.std.proofs.lemmas.List.{map-id}
use Rattle.std.proofs.lemmas.List.Elements.{All-map, All-cons}
use Rattle.run_events.specs.declared.events.ReporterEvent.{ReporterEvent}
use Rattle.run_events.specs.declared.events.ReporterEvent.TheVariants.{Tick, Test}
use Rattle.run_events.specs.declared.events.TestEventKind.{TestEventKind}
use Rattle.run_events.specs.declared.events.TestEventKind.TheVariants as kinds
use Rattle.run_events.specs.declared.message.TestUnit.{TestUnit}
use Rattle.run_events.specs.declared.plan.PlanTest.{PlanTest}
use Rattle.run_events.specs.declared.plan.TestInstanceId.{TestInstanceId}
use Rattle.run_events.specs.declared.settings.Settings.{Settings}
use Rattle.run_events.specs.declared.stress.StressIndex.{StressIndex}
use Rattle.run_model.specs.declared.happening.Happening.{Happening}
use Rattle.run_model.specs.Accounts as news
use Rattle.run_model.specs.Accounts.{News, account_of, news_in, news_of}
use Rattle.run_model.specs.Admission.{unit_of_test}
use Rattle.run_model.specs.Fates.{HaveFates}
use Rattle.run_model.specs.Reruns.{is_one_test}
use Rattle.run_model.specs.Words.{told}
use Rattle.run_laws_events.specs.Names.{IsTestNamed, NamesThePlan, NamesThePlanIn}
use Rattle.run_audit_model.specs.Seen.{as_audited, audited_kind}
use Rattle.run_audit_model.specs.SeenTests.{IsSeenOfPlan, KeepsAccounts, TestNews, as_seen, began}
use Rattle.run_audit_model.specs.SeenTests.{due_account, news_if, seen_test, skipped}
use Rattle.run_audit_model.specs.declared.audit_event.AuditEvent.{AuditEvent}
use Rattle.run_audit_model.specs.declared.audit_event.AuditEvent.TheVariants as seen
use Rattle.run_laws_audit.specs.Due.{account_told, test_news, test_news_in}
use Rattle.run_laws_audit.specs.Plain.{HasPlainStatus}
use Rattle.run_laws_audit.proofs.EdgeLemmas.{IsEdge, Ignores, between_edges}
use Rattle.run_laws_audit.proofs.IdLemmas.{id_itself, ids_of, names_test, planned, script_apart, test_within}
use Rattle.run_laws_audit.proofs.ListLemmas.{filter-seen, within_edges}
use Rattle.run_laws_audit.proofs.ReadLemmas.{account_read, cancel_test}

-- what an event tells of test j of the plan by its id is what it tells of its unit
if_unit : (b c : Bool) (seen_so : TestNews) (told_so : News) → b ≡ c → seen_so ≡ as_seen told_so
    → (if b then Some seen_so else None) ≡ option_map as_seen (if c then Some told_so else None)
if_unit true true s t e same = ap Some same
if_unit false false s t e same = refl
if_unit true false s t e same = cc
if_unit false true s t e same = cc

none_told : (b : Bool) (told_so : News) → b ≡ false → None ≡ option_map as_seen (if b then Some told_so else None)
none_told false t e = refl
none_told true t e = cc

module _ (p : Settings) (index : Option StressIndex) (j : ℕ) (test : PlanTest)
    (once : IsDistinct is_one_test (ids_of p.plan.tests)) (there : slice_get p.plan.tests j ≡ Some test) where
  abbrev IsToldAs : TestEventKind → Type 0
  IsToldAs kind = news_if test.id (test_news_in kind) ≡ option_map as_seen (news_in (unit_of_test p j) kind)

  same : (unit : TestUnit) → IsTestNamed p index unit → is_one_test unit.id test.id ≡ (unit.unit == unit_of_test p j)
  same unit named = names_test p index j test unit once there named

  of_kind : (kind : TestEventKind) → NamesThePlanIn p index kind → IsToldAs kind
  of_kind (kinds.SetupScriptStarted event) named =
      none_told (event.script.unit == unit_of_test p j) news.started (script_apart p index event.script j named)
  of_kind (kinds.SetupScriptFinished event) named =
      none_told (event.script.unit == unit_of_test p j) _ (script_apart p index event.script j named)
  of_kind (kinds.TestStarted event) named =
      if_unit _ _ began news.started (same event.start.test named) refl
  of_kind (kinds.TestAttemptFailedWillRetry event) named =
      if_unit _ _ _ (news.failed event.failed.status) (same event.failed.test named) refl
  of_kind (kinds.TestRetryStarted event) named =
      if_unit _ _ _ (news.retried event.retry.attempt) (same event.retry.start.test named) refl
  of_kind (kinds.TestFinished event) named =
      if_unit _ _ _ (news.finished event.finish.statuses) (same event.finish.test named) refl
  of_kind (kinds.TestSkipped event) named = if_unit _ _ skipped news.skipped (same event.test named.0) refl
  of_kind kind named = refl

  of_event : (e : ReporterEvent) → NamesThePlan p index e
      → news_if test.id (test_news e) ≡ option_map as_seen (news_of (unit_of_test p j) e)
  of_event Tick named = refl
  of_event (Test event) named = of_kind event.kind named

  -- so of all events
  account_is : (events : List ReporterEvent) → All (NamesThePlan p index) events
      → account_told test.id events ≡ map as_seen (account_of (unit_of_test p j) events)
  account_is events named =
      ap (filter_map (λ e. news_if test.id (test_news e))) (sym (map-id events))
      ∙ filter-seen (λ e. news_if test.id (test_news e)) (λ e. e) as_seen (news_of (unit_of_test p j)) events
      (λ i d low. of_event _ (named i d low))

-- so a sub-run tells what is due of each test, where each unit has its fate
pub accounts_due : (p : Settings) (index : Option StressIndex) (run : List Happening)
    → IsDistinct is_one_test (ids_of p.plan.tests) → HaveFates p run → All (NamesThePlan p index) (told run)
    → (j : ℕ) (test : PlanTest) → slice_get p.plan.tests j ≡ Some test
    → account_told test.id (told run) ≡ due_account p run (unit_of_test p j)
accounts_due p index run once fates named j test there =
    account_is p index j test once there (told run) named
    ∙ ap (map as_seen) (fates (unit_of_test p j) (test_within p j test there)).account

-- an event that names the plan tells of no test, or of one of the plan
abbrev IsOfOne : Settings → TestInstanceId × TestNews → Type 0
IsOfOne p told_so = (j : ℕ) × (test : PlanTest) × (slice_get p.plan.tests j ≡ Some test)
    × (is_one_test told_so.0 test.id ≡ true)

test_planned : (p : Settings) (index : Option StressIndex) (unit : TestUnit) (told_so : TestNews)
    → IsTestNamed p index unit
    → (j : ℕ) × (test : PlanTest) × (slice_get p.plan.tests j ≡ Some test) × (is_one_test unit.id test.id ≡ true)
test_planned p index unit told_so named =
    let it = planned p index unit named in
    (it.place, it.test, it.there, ap (λ id. is_one_test id it.test.id) it.id ∙ id_itself it.test.id)

kind_planned : (p : Settings) (index : Option StressIndex) (kind : TestEventKind) → NamesThePlanIn p index kind
    → IsSeenOfPlan p (audited_kind kind)
kind_planned p index (kinds.TestStarted event) named = test_planned p index event.start.test began named
kind_planned p index (kinds.TestAttemptFailedWillRetry event) named =
    test_planned p index event.failed.test began named
kind_planned p index (kinds.TestRetryStarted event) named = test_planned p index event.retry.start.test began named
kind_planned p index (kinds.TestFinished event) named = test_planned p index event.finish.test began named
kind_planned p index (kinds.TestSkipped event) named = test_planned p index event.test began named.0
kind_planned p index (kinds.RunBeginCancel event) named =
    subst (λ o. IfSome o (IsOfOne p)) (sym (cancel_test event.stats.cancel_reason false)) tt
kind_planned p index (kinds.RunBeginKill event) named =
    subst (λ o. IfSome o (IsOfOne p)) (sym (cancel_test event.stats.cancel_reason true)) tt
kind_planned p index kind named = tt

event_planned : (p : Settings) (index : Option StressIndex) (e : ReporterEvent) → NamesThePlan p index e
    → IsSeenOfPlan p (as_audited e)
event_planned p index Tick named = tt
event_planned p index (Test event) named = kind_planned p index event.kind named

-- so all that it tells keeps what is due, where its statuses are plain
pub accounts_kept : (p : Settings) (index : Option StressIndex) (run : List Happening)
    → IsDistinct is_one_test (ids_of p.plan.tests) → HaveFates p run → All (NamesThePlan p index) (told run)
    → All HasPlainStatus (told run) → KeepsAccounts p run (map as_audited (told run))
accounts_kept p index run once fates named plain = record {
  each = λ j test there.
      account_read test.id (told run) plain ∙ accounts_due p index run once fates named j test there;
  planned = All-map (IsSeenOfPlan p) as_audited (told run) (each_planned (told run) named);
}
  where
    each_planned : (events : List ReporterEvent) → All (NamesThePlan p index) events
        → All (λ e. IsSeenOfPlan p (as_audited e)) events
    each_planned events named i d low = event_planned p index _ (named i d low)

-- edges tell of no test
edge_test : (e : AuditEvent) → IsEdge e → seen_test e ≡ None
edge_test seen.RunStarted edge = refl
edge_test seen.RunFinished edge = refl
edge_test seen.SubRunStarted edge = refl
edge_test seen.SubRunFinished edge = refl
edge_test e edge = absurd edge

pub ignores : (p : Settings) (run : List Happening) → Ignores (KeepsAccounts p run)
ignores p run = record {
  between = λ before part after opens closes kept. record {
    each = λ j test there.
        sym (between_edges (λ e. news_if test.id (seen_test e)) (λ e edge. ap (news_if test.id) (edge_test e edge))
        before part after opens closes)
        ∙ kept.each j test there;
    planned = within_edges (IsSeenOfPlan p) before part after kept.planned;
  };
  start = λ part kept. record {
    each = kept.each;
    planned = All-cons (IsSeenOfPlan p) seen.RunStarted part tt kept.planned;
  };
}
