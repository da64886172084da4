-- What was told can be told: events say it that stand within a part.
use Rattle.std.proofs.Common.{◌≡◌, ◌∙◌, List, [], ◌∷◌, ◌++◌, map, filter_map, Bool, true, false, if◌then◌else◌, refl}
use Rattle.std.proofs.Common.{get_or, Option, Some, None, option_to_list, is_some, sym, ap, subst, IfSome, true≢false}
use Rattle.std.specs.List.{All}
use Rattle.std.proofs.lemmas.List.{append-nil}
use Rattle.std.proofs.lemmas.List.Elements.{All-nil, All-cons, All-head, All-push, All-tail}
use Rattle.std.proofs.lemmas.Option.{same_Some}
use Rattle.run_events.specs.declared.events.ReporterEvent.{ReporterEvent}
use Rattle.run_events.specs.declared.events.ReporterEvent.TheVariants.{Tick, Test}
use Rattle.run_events.specs.declared.events.TestEventKind.{TestEventKind}
use Rattle.run_events.specs.declared.events.TestEventKind.TheVariants as kinds
use Rattle.run_events.specs.declared.plan.TestInstanceId.{TestInstanceId}
use Rattle.run_model.specs.Reruns.{is_one_test}
use Rattle.run_audit_model.specs.Parts.{closes_part}
use Rattle.run_audit_model.specs.Seen.{as_audited, attempt_text, script_status_text}
use Rattle.run_audit_model.specs.SeenScripts.{ScriptNews, ended, seen_script}
use Rattle.run_audit_model.specs.SeenTests.{TestNews, failed, finished, news_if, seen_test}
use Rattle.run_audit_model.specs.declared.audit_event.AuditEvent.{AuditEvent}
use Rattle.run_audit_model.specs.declared.audit_event.AuditEvent.TheVariants as seen
use Rattle.run_audit_machines.specs.Accounts.{AreApart, CanTellEach, IsTellableOf, names_in}
use Rattle.run_audit_machines.specs.Machines.{HoldsInParts, InParts, IsTellable, StaysWithin, first_state, one_each}
use Rattle.run_audit_machines.specs.Scripts.{may_begin}
use Rattle.run_laws_audit.specs.Due.{script_news, script_news_in, test_news, test_news_in}
use Rattle.run_laws_audit.specs.Plain.{HasPlainStatus, HasPlainStatusIn}
use Rattle.run_laws_audit.specs.Split.{news_by_part}
use Rattle.run_laws_audit.proofs.IdLemmas.{id_is}
use Rattle.run_laws_audit.proofs.KeptLemmas.{kept_all}
use Rattle.run_laws_audit.proofs.ShapeLemmas.{inner_open}
use Rattle.run_laws_audit.proofs.StatusLemmas.{script_read, status_read, statuses_read}
use Rattle.run_audit.specs.Told.{accounts_told}

-- what holds of each news holds part by part
pub all_by_part : {Y : Type 0} (stress : Bool) (news : ReporterEvent → Option Y) (Holds : Y → Type 0) (so_far : List Y)
    (events : List ReporterEvent) → All Holds so_far → All (λ e. IfSome (news e) Holds) events
    → All (All Holds) (news_by_part stress news so_far events)
all_by_part stress news Holds so_far [] before all = All-nil (All Holds)
all_by_part {Y} stress news Holds so_far (e ∷ events) before all =
    by_end (closes_part stress (as_audited e)) (λ earlier own. all_by_part stress news Holds earlier events own
    (All-tail (λ e. IfSome (news e) Holds) e events all))
  where
    more : (o : Option Y) → IfSome o Holds → All Holds (so_far ++ option_to_list o)
    more None own = subst (All Holds) (sym (append-nil so_far)) before
    more (Some y) own = All-push Holds so_far y before own

    by_end : (b : Bool) → ((earlier : List Y) → All Holds earlier → All (All Holds)
        (news_by_part stress news earlier events))
        → All (All Holds) (if b then so_far ∷ news_by_part stress news [] events
        else news_by_part stress news (so_far ++ option_to_list (news e)) events)
    by_end true rest =
        All-cons (All Holds) so_far (news_by_part stress news [] events) before (rest [] (All-nil Holds))
    by_end false rest =
        rest (so_far ++ option_to_list (news e))
        (more (news e) (All-head (λ e. IfSome (news e) Holds) e events all))

-- what holds of each part to come holds of a run at its start
pub first_holds : {S : Type 0} (Holds : S → Type 0) (stress : Bool) (coming : List S) (law : InParts S (List S))
    → All Holds coming → first_state one_each stress coming ≡ Some law → HoldsInParts Holds (All Holds) law
first_holds Holds true coming law all is =
    subst (HoldsInParts Holds (All Holds)) (same_Some _ law is) (record { within = tt; comes = all })
first_holds Holds false [] law all is = absurd (true≢false (ap is_some (sym is)))
first_holds Holds false (s ∷ coming) law all is =
    subst (HoldsInParts Holds (All Holds)) (same_Some _ law is)
    (record { within = All-head Holds s coming all; comes = All-tail Holds s coming all })

-- ---- setup scripts

abbrev pub IsScriptTellable : ScriptNews → Type 0
IsScriptTellable = IsTellable seen_script may_begin

pub script_tellable : (e : ReporterEvent) → HasPlainStatus e → IfSome (script_news e) IsScriptTellable
script_tellable Tick plain = tt
script_tellable (Test event) plain = by_kind event.kind plain
  where
    by_kind : (kind : TestEventKind) → HasPlainStatusIn kind → IfSome (script_news_in kind) IsScriptTellable
    by_kind (kinds.SetupScriptStarted start) plain =
        let e : AuditEvent = seen.ScriptStarted start.script.index in
        (e, refl, (λ stress. inner_open stress e tt), λ counts. refl)
    by_kind (kinds.SetupScriptFinished finish) plain =
        let e : AuditEvent = seen.ScriptFinished finish.script.index (script_status_text finish.status) in (
          e,
          ap (λ c. Some (ended finish.script.index c)) (script_read finish.status plain),
          (λ stress. inner_open stress e tt),
          λ counts. refl,
        )
    by_kind kind plain = tt

-- ---- tests

-- some event tells it, and stays within the part
abbrev pub IsTestTellable : TestInstanceId × TestNews → Type 0
IsTestTellable told = (e : AuditEvent) × (seen_test e ≡ Some told) × StaysWithin e

pub test_tellable : (e : ReporterEvent) → HasPlainStatus e → IfSome (test_news e) IsTestTellable
test_tellable Tick plain = tt
test_tellable (Test event) plain = by_kind event.kind plain
  where
    by_kind : (kind : TestEventKind) → HasPlainStatusIn kind → IfSome (test_news_in kind) IsTestTellable
    by_kind (kinds.TestStarted own) plain =
        let e : AuditEvent = seen.TestStarted own.start.test.id own.start.slot in
        (e, refl, λ stress. inner_open stress e tt)
    by_kind (kinds.TestAttemptFailedWillRetry own) plain =
        let e : AuditEvent = seen.AttemptFailed own.failed.test.id (attempt_text own.failed.status) in (
          e,
          ap (λ c. Some (own.failed.test.id, failed c)) (status_read own.failed.status plain),
          λ stress. inner_open stress e tt,
        )
    by_kind (kinds.TestRetryStarted own) plain =
        let e : AuditEvent = seen.RetryStarted own.retry.start.test.id own.retry.attempt in
        (e, refl, λ stress. inner_open stress e tt)
    by_kind (kinds.TestFinished own) plain =
        let e : AuditEvent = seen.Finished own.finish.test.id (map attempt_text own.finish.statuses) in (
          e,
          ap (λ cs. Some (own.finish.test.id, finished cs)) (statuses_read own.finish.statuses plain),
          λ stress. inner_open stress e tt,
        )
    by_kind (kinds.TestSkipped own) plain =
        let e : AuditEvent = seen.Skipped own.test.id in (e, refl, λ stress. inner_open stress e tt)
    by_kind kind plain = tt

-- so each of the news of a test
one_tellable : (id : TestInstanceId) (told : TestInstanceId × TestNews) → IsTestTellable told
    → IfSome (news_if id (Some told)) (IsTellableOf seen_test id)
one_tellable id told some = by_one (is_one_test told.0 id) refl
  where
    by_one : (b : Bool) → is_one_test told.0 id ≡ b
        → IfSome (if b then Some told.1 else None) (IsTellableOf seen_test id)
    by_one true is = (some.0, some.1 ∙ ap (λ i. Some (i, told.1)) (id_is told.0 id is), some.2)
    by_one false is = tt

names_told : (ids : List TestInstanceId) (news : List (TestInstanceId × TestNews))
    → names_in (accounts_told ids news) ≡ ids
names_told [] news = refl
names_told (id ∷ ids) news = ap (λ ids. id ∷ ids) (names_told ids news)

each_tellable : (ids : List TestInstanceId) (news : List (TestInstanceId × TestNews)) → All IsTestTellable news
    → All (λ account. All (IsTellableOf seen_test account.0) account.1) (accounts_told ids news)
each_tellable [] news all = All-nil (λ account. All (IsTellableOf seen_test account.0) account.1)
each_tellable (id ∷ ids) news all =
    All-cons (λ account. All (IsTellableOf seen_test account.0) account.1)
    (id, filter_map (λ told. news_if id (Some told)) news) (accounts_told ids news)
    (kept_all (λ told. news_if id (Some told)) (IsTellableOf seen_test id) news
    (λ i d low. one_tellable id (get_or news i d) (all i d low)))
    (each_tellable ids news all)

pub accounts_tellable : (ids : List TestInstanceId) (news : List (TestInstanceId × TestNews))
    → AreApart is_one_test ids → All IsTestTellable news
    → CanTellEach is_one_test seen_test (accounts_told ids news)
accounts_tellable ids news apart all = record {
  apart = subst (AreApart is_one_test) (sym (names_told ids news)) apart;
  each = each_tellable ids news all;
}
