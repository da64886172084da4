-- What is due of each test, event by event, is what it is told in each part.
use Rattle.std.proofs.Common.{◌≡◌, ◌∙◌, ◌+◌, ℕ, zero, suc, List, [], ◌∷◌, ◌++◌, map, set, length, filter_map}
use Rattle.std.proofs.Common.{Bool, true, false, if◌then◌else◌, Option, Some, None, option_map, option_to_list, is_some}
use Rattle.std.proofs.Common.{Bor, option_copied, slice_get, refl, sym, ap, ap₂, true≢false, arith, add-zero}
use Rattle.std.proofs.Common.{append_assoc}
use Rattle.std.specs.List.{All, cons_option, list_any}
use Rattle.std.proofs.lemmas.Bool.{or_parts}
use Rattle.std.proofs.lemmas.List.{append-nil, map-append}
use Rattle.std.proofs.lemmas.List.Elements.{All-head, All-push, All-tail, filter_map-append}
use Rattle.std.proofs.lemmas.Option.{same_Some}
use Rattle.run_events.specs.declared.events.ReporterEvent.{ReporterEvent}
use Rattle.run_events.specs.declared.plan.PlanTest.{PlanTest}
use Rattle.run_events.specs.declared.plan.TestInstanceId.{TestInstanceId}
use Rattle.run_events.specs.declared.settings.Settings.{Settings}
use Rattle.run_model.specs.declared.happening.Happening.{Happening}
use Rattle.run_model.specs.Admission.{unit_of_test}
use Rattle.run_model.specs.Reruns.{is_one_test}
use Rattle.run_model.specs.Words.{told}
use Rattle.run_audit_model.specs.Parts.{closes_part}
use Rattle.run_audit_model.specs.Seen.{as_audited}
use Rattle.run_audit_model.specs.SeenTests.{TestNews, due_account, news_if}
use Rattle.run_audit_machines.specs.Accounts.{IsOnlyAt, accounts_by, accounts_seen}
use Rattle.run_audit_machines.specs.Tests.{TestPart, accounts_from}
use Rattle.run_audit_passes.specs.declared.due_test.DueTest.{DueTest}
use Rattle.run_laws_audit.specs.Due.{account_told, test_news}
use Rattle.run_laws_audit.specs.Split.{news_by_part}
use Rattle.run_audit.specs.Told.{AddsAt, Known, account_with, accounts_all, accounts_by_part, accounts_known}
use Rattle.run_audit.specs.Told.{accounts_told, accounts_with, no_accounts, test_known}

-- ---- one event more

-- nothing is told of a test
account_kept : (e : ReporterEvent) (account : TestInstanceId × List TestNews) → news_if account.0 (test_news e) ≡ None
    → account_with e account ≡ account
account_kept e account none =
    ap (λ o. (account.0, account.1 ++ option_to_list o)) none ∙ ap (λ ns. (account.0, ns)) (append-nil account.1)

-- nor of any
pub silent : (e : ReporterEvent) (accounts : TestPart TestNews) → test_news e ≡ None
    → accounts_with e accounts ≡ accounts
silent e [] none = refl
silent e (account ∷ accounts) none =
    ap₂ (λ a b. a ∷ b) (account_kept e account (ap (news_if account.0) none)) (silent e accounts none)

not_of : (id : TestInstanceId) (o : Option (TestInstanceId × TestNews)) (t : TestInstanceId × TestNews) → o ≡ Some t
    → is_one_test t.0 id ≡ false → news_if id o ≡ None
not_of id o t is other = ap (news_if id) is ∙ ap (λ b. if b then Some t.1 else None) other

of_this : (id : TestInstanceId) (o : Option (TestInstanceId × TestNews)) (t : TestInstanceId × TestNews) → o ≡ Some t
    → is_one_test t.0 id ≡ true → news_if id o ≡ Some t.1
of_this id o t is own = ap (news_if id) is ∙ ap (λ b. if b then Some t.1 else None) own

pub others_with : {Q : Type 0} (items : Q → List (DueTest Known)) (e : ReporterEvent) (t : TestInstanceId × TestNews)
    (ids : List TestInstanceId) (queues : List Q) → test_news e ≡ Some t → list_any (is_one_test t.0) ids ≡ false
    → accounts_known items ids queues ≡ accounts_with e (accounts_known items ids queues)
others_with items e t [] queues is none = refl
others_with items e t (id ∷ ids) [] is none = refl
others_with items e t (id ∷ ids) (queue ∷ queues) is none =
    let parts = or_parts (is_one_test t.0 id) (list_any (is_one_test t.0) ids) none in
    ap₂ (λ a b. a ∷ b)
    (sym (account_kept e (id, map test_known (items queue)) (not_of id (test_news e) t is parts.0)))
    (others_with items e t ids queues is parts.1)

-- the queue of the one of which it is told has it at its end
own_with : {Q : Type 0} (items : Q → List (DueTest Known)) (e : ReporterEvent) (t : TestInstanceId × TestNews)
    (y : DueTest Known) (ids : List TestInstanceId) (queues : List Q) (place : ℕ) (queue more : Q)
    → test_news e ≡ Some t
    → test_known y ≡ t.1 → IsOnlyAt (is_one_test t.0) ids place → slice_get queues place ≡ Some queue
    → items more ≡ items queue ++ y ∷ []
    → accounts_known items ids (set queues place more) ≡ accounts_with e (accounts_known items ids queues)
own_with items e t y [] queues place queue more is known only at adds = absurd only
own_with items e t y (id ∷ ids) [] place queue more is known only at adds = absurd (true≢false (ap is_some (sym at)))
own_with items e t y (id ∷ ids) (q ∷ queues) zero queue more is known only at adds =
    ap₂ (λ a b. a ∷ b)
    (ap (λ ns. (id, ns)) (ap (map test_known) (adds ∙ ap (λ q. items q ++ y ∷ []) (sym (same_Some q queue at)))
    ∙ map-append test_known (items q) (y ∷ []) ∙ ap (λ n. map test_known (items q) ++ n ∷ []) known
    ∙ ap (λ o. map test_known (items q) ++ option_to_list o) (sym (of_this id (test_news e) t is only.0))))
    (others_with items e t ids queues is only.1)
own_with items e t y (id ∷ ids) (q ∷ queues) (suc place) queue more is known only at adds =
    ap₂ (λ a b. a ∷ b)
    (sym (account_kept e (id, map test_known (items q)) (not_of id (test_news e) t is only.0)))
    (own_with items e t y ids queues place queue more is known only.1 at adds)

pub added_with : {Q : Type 0} (items : Q → List (DueTest Known)) (e : ReporterEvent) (t : TestInstanceId × TestNews)
    (y : DueTest Known) (ids : List TestInstanceId) (queues after : List Q) (place : ℕ) → test_news e ≡ Some t
    → test_known y ≡ t.1 → IsOnlyAt (is_one_test t.0) ids place → AddsAt items queues place y after
    → accounts_known items ids after ≡ accounts_with e (accounts_known items ids queues)
added_with items e t y ids queues after place is known only adds =
    ap (accounts_known items ids) adds.4
    ∙ own_with items e t y ids queues place adds.0 adds.1 is known only adds.2 adds.3

-- queues of which nothing is due
pub none_known : {Q : Type 0} (items : Q → List (DueTest Known)) (ids : List TestInstanceId) (queues : List Q)
    → length ids ≡ length queues → All (λ queue. items queue ≡ []) queues
    → accounts_known items ids queues ≡ no_accounts ids
none_known items [] queues many none = refl
none_known items (id ∷ ids) [] many none = absurd (omega (arith, many))
none_known items (id ∷ ids) (queue ∷ queues) many none =
    ap₂ (λ a b. a ∷ b)
    (ap (λ due. (id, map test_known due)) (All-head (λ queue. items queue ≡ []) queue queues none))
    (none_known items ids queues (omega (arith, many)) (All-tail (λ queue. items queue ≡ []) queue queues none))

pub one_empty : {Q Y : Type 0} (items : Q → List Y) (queues : List Q) (queue : Q)
    → All (λ queue. items queue ≡ []) queues → items queue ≡ [] → All (λ queue. items queue ≡ []) (queues ++ queue ∷ [])
one_empty items queues queue all none = All-push (λ queue. items queue ≡ []) queues queue all none

-- ---- all events of a part

-- an event closes a part, or stands within one
pub part_closed : {Q : Type 0} (items : Q → List (DueTest Known)) (stress : Bool) (ids : List TestInstanceId)
    (parts : List (TestPart (DueTest Known))) (queues fresh : List Q) (e : ReporterEvent) (rest : List ReporterEvent)
    → closes_part stress (as_audited e) ≡ true → accounts_known items ids fresh ≡ no_accounts ids
    → accounts_all items stress ids (parts ++ accounts_by items ids queues ∷ []) fresh rest
    ≡ accounts_all items stress ids parts queues (e ∷ rest)
part_closed items stress ids parts queues fresh e rest is none =
    ap (λ l. l ++ accounts_by_part stress ids (accounts_known items ids fresh) rest)
    (map-append (accounts_seen test_known) parts (accounts_by items ids queues ∷ []))
    ∙ append_assoc (map (accounts_seen test_known) parts) (accounts_known items ids queues ∷ [])
    (accounts_by_part stress ids (accounts_known items ids fresh) rest)
    ∙ ap (λ a. map (accounts_seen test_known) parts ++ accounts_known items ids queues
    ∷ accounts_by_part stress ids a rest) none
    ∙ sym (ap (λ b. map (accounts_seen test_known) parts ++ (if b
    then accounts_known items ids queues ∷ accounts_by_part stress ids (no_accounts ids) rest
    else accounts_by_part stress ids (accounts_with e (accounts_known items ids queues)) rest)) is)

pub part_told : {Q : Type 0} (items : Q → List (DueTest Known)) (stress : Bool) (ids : List TestInstanceId)
    (parts : List (TestPart (DueTest Known))) (queues after : List Q) (e : ReporterEvent) (rest : List ReporterEvent)
    → closes_part stress (as_audited e) ≡ false
    → accounts_known items ids after ≡ accounts_with e (accounts_known items ids queues)
    → accounts_all items stress ids parts after rest ≡ accounts_all items stress ids parts queues (e ∷ rest)
part_told items stress ids parts queues after e rest is tells =
    ap (λ a. map (accounts_seen test_known) parts ++ accounts_by_part stress ids a rest) tells
    ∙ sym (ap (λ b. map (accounts_seen test_known) parts ++ (if b
    then accounts_known items ids queues ∷ accounts_by_part stress ids (no_accounts ids) rest
    else accounts_by_part stress ids (accounts_with e (accounts_known items ids queues)) rest)) is)

-- ---- what is told of tests, part by part

one_kept : {Y : Type 0} (o : Option Y) → cons_option o [] ≡ option_to_list o
one_kept None = refl
one_kept (Some y) = refl

told_more : (id : TestInstanceId) (news : List (TestInstanceId × TestNews)) (o : Option (TestInstanceId × TestNews))
    → filter_map (λ told. news_if id (Some told)) news ++ option_to_list (news_if id o)
    ≡ filter_map (λ told. news_if id (Some told)) (news ++ option_to_list o)
told_more id news None =
    append-nil (filter_map (λ told. news_if id (Some told)) news)
    ∙ ap (filter_map (λ told. news_if id (Some told))) (sym (append-nil news))
told_more id news (Some t) =
    ap (λ l. filter_map (λ told. news_if id (Some told)) news ++ l) (sym (one_kept (news_if id (Some t))))
    ∙ sym (filter_map-append (λ told. news_if id (Some told)) news (t ∷ []))

told_with : (e : ReporterEvent) (ids : List TestInstanceId) (news : List (TestInstanceId × TestNews))
    → accounts_with e (accounts_told ids news) ≡ accounts_told ids (news ++ option_to_list (test_news e))
told_with e [] news = refl
told_with e (id ∷ ids) news =
    ap₂ (λ a b. a ∷ b) (ap (λ l. (id, l)) (told_more id news (test_news e))) (told_with e ids news)

pub split_accounts : (stress : Bool) (ids : List TestInstanceId) (so_far : List (TestInstanceId × TestNews))
    (events : List ReporterEvent) → accounts_by_part stress ids (accounts_told ids so_far) events
    ≡ map (accounts_told ids) (news_by_part stress test_news so_far events)
split_accounts stress ids so_far [] = refl
split_accounts stress ids so_far (e ∷ events) =
    by_end (closes_part stress (as_audited e)) (λ news. split_accounts stress ids news events)
  where
    by_end : (b : Bool) → ((news : List (TestInstanceId × TestNews))
        → accounts_by_part stress ids (accounts_told ids news) events
        ≡ map (accounts_told ids) (news_by_part stress test_news news events)) → (if b then accounts_told ids so_far
        ∷ accounts_by_part stress ids (no_accounts ids) events
        else accounts_by_part stress ids (accounts_with e (accounts_told ids so_far)) events)
        ≡ map (accounts_told ids) (if b then so_far ∷ news_by_part stress test_news [] events
        else news_by_part stress test_news (so_far ++ option_to_list (test_news e)) events)
    by_end true rest = ap (λ l. accounts_told ids so_far ∷ l) (rest [])
    by_end false rest =
        ap (λ a. accounts_by_part stress ids a events) (told_with e ids so_far)
        ∙ rest (so_far ++ option_to_list (test_news e))

-- ---- and by the run

of_one : (id : TestInstanceId) (events : List ReporterEvent)
    → filter_map (λ told. news_if id (Some told)) (filter_map test_news events) ≡ account_told id events
of_one id [] = refl
of_one id (e ∷ events) = by_news (test_news e) (of_one id events)
  where
    by_news : (o : Option (TestInstanceId × TestNews))
        → filter_map (λ told. news_if id (Some told)) (filter_map test_news events) ≡ account_told id events
        → filter_map (λ told. news_if id (Some told)) (cons_option o (filter_map test_news events))
        ≡ cons_option (news_if id o) (account_told id events)
    by_news None rest = rest
    by_news (Some t) rest = ap (cons_option (news_if id (Some t))) rest

pub run_accounts : (p : Settings) (run : List Happening) (j : ℕ) (tests : List PlanTest)
    → ((i : ℕ) (test : PlanTest) → slice_get tests i ≡ Some test
    → account_told test.id (told run) ≡ due_account p run (unit_of_test p (j + i)))
    → accounts_told (map (λ test. test.id) tests) (filter_map test_news (told run)) ≡ accounts_from p run j tests
run_accounts p run j [] each = refl
run_accounts p run j (test ∷ tests) each =
    ap₂ (λ a b. a ∷ b)
    (ap (λ l. (test.id, l)) (of_one test.id (told run) ∙ each 0 test refl
    ∙ ap (λ n. due_account p run (unit_of_test p n)) (add-zero j)))
    (run_accounts p run (suc j) tests (λ i own there. each (suc i) own there
    ∙ ap (λ n. due_account p run (unit_of_test p n)) (omega arith)))

-- ---- the test that an event tells of

pub nothing_told : (r : Option (Bor TestInstanceId)) (o : Option (TestInstanceId × TestNews))
    → option_copied r ≡ option_map (λ t. t.0) o → r ≡ None → o ≡ None
nothing_told r None is none = refl
nothing_told r (Some t) is none = absurd (true≢false (ap is_some (sym is ∙ ap option_copied none)))

pub something_told : (r : Option (Bor TestInstanceId)) (o : Option (TestInstanceId × TestNews))
    (id : Bor TestInstanceId) → option_copied r ≡ option_map (λ t. t.0) o → r ≡ Some id
    → (t : TestInstanceId × TestNews) × (o ≡ Some t) × (t.0 ≡ id.now)
something_told r None id is some = absurd (true≢false (ap is_some (sym (ap option_copied some) ∙ is)))
something_told r (Some t) id is some = (t, refl, same_Some t.0 id.now (sym is ∙ ap option_copied some))

-- what is told of it
pub news_known : (o : Option (TestInstanceId × TestNews)) (t : TestInstanceId × TestNews) (y : DueTest Known)
    → o ≡ Some t → option_map test_known (Some y) ≡ option_map (λ told. told.1) o → test_known y ≡ t.1
news_known o t y is known = same_Some (test_known y) t.1 (known ∙ ap (option_map (λ told. told.1)) is)
