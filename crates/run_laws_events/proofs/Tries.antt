-- What is told of the attempts of a test is numbered from 1 on.
use Rattle.std.specs.Prelude.{⊤}
use Rattle.std.proofs.Common.{◌≡◌, inl, inr, ℕ, zero, suc, ◌+◌, ◌==◌, List, [], ◌∷◌, ◌++◌, map, length, Bool, true}
use Rattle.std.proofs.Common.{false, if◌then◌else◌, Option, Some, None, refl, ap, sym, subst, ◌∙◌, arith, append-nil}
use Rattle.std.specs.List.{cons_option, range_with_len}
use Rattle.std.proofs.lemmas.List.{length-map, map-append}
use Rattle.run_events.specs.declared.events.ReporterEvent.{ReporterEvent}
use Rattle.run_events.specs.declared.events.ReporterEvent.TheVariants.{Tick, Test}
use Rattle.run_events.specs.declared.events.TestEventKind.{TestEventKind}
use Rattle.run_events.specs.declared.events.TestEventKind.TheVariants as kinds
use Rattle.run_events.specs.declared.message.TestRetry.{TestRetry}
use Rattle.run_events.specs.declared.plan.PlanTest.{PlanTest}
use Rattle.run_events.specs.declared.plan.TestSlotAssignment.{TestSlotAssignment}
use Rattle.run_events.specs.declared.result.ExecuteStatus.{ExecuteStatus}
use Rattle.run_events.specs.declared.settings.Settings.{Settings}
use Rattle.run_model.specs.declared.entry.Entry.{Entry}
use Rattle.run_model.specs.declared.happening.Happening.{Happening}
use Rattle.run_model.specs.declared.phase.Phase.{Phase}
use Rattle.run_model.specs.declared.phase.Phase.TheVariants.{StartSent, Starting, Running, Grace, KillWait, Leak}
use Rattle.run_model.specs.declared.phase.Phase.TheVariants.{EnvWait, Deciding, Delay, RetrySent, Over}
use Rattle.run_model.specs.declared.unit_view.AttemptTerms.{AttemptTerms}
use Rattle.run_model.specs.declared.unit_view.UnitView.{UnitView}
use Rattle.run_model.specs.Accounts.{News, started, failed, retried, finished, skipped, tried, tried_from}
use Rattle.run_model.specs.Accounts.{HasAccount, HasAccountAt}
use Rattle.run_model.specs.Accounts.{account_of, is_mismatched, news_in, news_of, pending_of}
use Rattle.run_model.specs.Admission.{unit_terms}
use Rattle.run_model.specs.Journal.{history, IsLegalBackward}
use Rattle.run_model.specs.Story.{OwnTurn, pieces, story_of, was_left}
use Rattle.run_model.specs.Words.{queue, sub_run, told, unit_of}
use Rattle.run_laws.specs.Limits.{slots_told}
use Rattle.run_laws.proofs.units.AttemptLemmas.{IsMadeIf}
use Rattle.run_laws.proofs.board.Holds.{IsOnWay, Way, way_of}
use Rattle.run_laws.proofs.board.Kept.{HoldsAfter, holds}
use Rattle.run_laws_events.specs.Names.{test_of_unit}
use Rattle.run_laws_events.specs.Retries.{AreNumbered, Try, failure_of, retry_as, retry_in, retry_to, retry_told}
use Rattle.run_laws_events.specs.Retries.{retries_as, retries_told, tries_from, tries_told, try_in, try_told}
use Rattle.run_laws_events.proofs.RetryOrder.{retries_ordered}
use Rattle.run_laws_events.proofs.Numbered.{AreFrom, attempts_of, from_split, unit_numbered}
use Rattle.run_events.specs.declared.stress.StressIndex.{StressIndex}
use Rattle.run_model.specs.SubRuns.{stress_index}

-- what is told of attempts, by an account whose retries have these numbers
abbrev labelled : List News → List TestRetry → List Try
labelled [] rs = []
labelled (failed s ∷ news) rs = failure_of s.attempt ∷ labelled news rs
labelled (retried n ∷ news) [] = labelled news []
labelled (retried n ∷ news) (r ∷ rs) = retry_to r.attempt ∷ labelled news rs
labelled (n ∷ news) rs = labelled news rs

abbrev pub retried_in : List News → ℕ
retried_in [] = 0
retried_in (retried n ∷ news) = retried_in news + 1
retried_in (n ∷ news) = retried_in news

try_one : (k : ℕ) (e : ReporterEvent) (t : List News) (rs : List TestRetry)
    → cons_option (try_told k e) (labelled t rs)
    ≡ labelled (cons_option (news_of k e) t) (cons_option (retry_told k e) rs)
try_one k Tick t rs = refl
try_one k (Test e) t rs = by_kind e.kind
  where
    Same : TestEventKind → Type 0
    Same kind = cons_option (try_in k kind) (labelled t rs)
        ≡ labelled (cons_option (news_in k kind) t) (cons_option (retry_in k kind) rs)

    quiet : (b : Bool) (n : News) → labelled (n ∷ t) rs ≡ labelled t rs
        → labelled t rs ≡ labelled (cons_option (if b then Some n else None) t) rs
    quiet true n same = sym same
    quiet false n same = refl

    by_kind : (kind : TestEventKind) → Same kind
    by_kind (kinds.SetupScriptStarted event) = quiet (event.script.unit == k) started refl
    by_kind (kinds.SetupScriptFinished event) = quiet (event.script.unit == k) _ refl
    by_kind (kinds.TestStarted event) = quiet (event.start.test.unit == k) started refl
    by_kind (kinds.TestFinished event) = quiet (event.finish.test.unit == k) _ refl
    by_kind (kinds.TestSkipped event) = quiet (event.test.unit == k) skipped refl
    by_kind (kinds.TestAttemptFailedWillRetry event) = by_unit (event.failed.test.unit == k)
      where
        by_unit : (b : Bool)
            → cons_option (if b then Some (failure_of event.failed.status.attempt) else None) (labelled t rs)
            ≡ labelled (cons_option (if b then Some (failed event.failed.status) else None) t) rs
        by_unit true = refl
        by_unit false = refl
    by_kind (kinds.TestRetryStarted event) = by_unit (event.retry.start.test.unit == k)
      where
        by_unit : (b : Bool)
            → cons_option (if b then Some (retry_to event.retry.attempt) else None) (labelled t rs)
            ≡ labelled (cons_option (if b then Some (retried event.retry.attempt) else None) t)
            (cons_option (if b then Some event.retry else None) rs)
        by_unit true = refl
        by_unit false = refl
    by_kind kind = refl

tries-told : (k : ℕ) (es : List ReporterEvent) → tries_told k es ≡ labelled (account_of k es) (retries_told k es)
tries-told k [] = refl
tries-told k (e ∷ es) =
    ap (cons_option (try_told k e)) (tries-told k es) ∙ try_one k e (account_of k es) (retries_told k es)

-- as many retries are told as the account has
count_one : (k : ℕ) (e : ReporterEvent) (t : List News) (rs : List TestRetry) → retried_in t ≡ length rs
    → retried_in (cons_option (news_of k e) t) ≡ length (cons_option (retry_told k e) rs)
count_one k Tick t rs same = same
count_one k (Test e) t rs same = by_kind e.kind
  where
    quiet : (b : Bool) (n : News) → retried_in (n ∷ t) ≡ retried_in t
        → retried_in (cons_option (if b then Some n else None) t) ≡ length rs
    quiet true n still = still ∙ same
    quiet false n still = same

    by_kind : (kind : TestEventKind)
        → retried_in (cons_option (news_in k kind) t) ≡ length (cons_option (retry_in k kind) rs)
    by_kind (kinds.SetupScriptStarted event) = quiet (event.script.unit == k) started refl
    by_kind (kinds.SetupScriptFinished event) = quiet (event.script.unit == k) _ refl
    by_kind (kinds.TestStarted event) = quiet (event.start.test.unit == k) started refl
    by_kind (kinds.TestFinished event) = quiet (event.finish.test.unit == k) _ refl
    by_kind (kinds.TestSkipped event) = quiet (event.test.unit == k) skipped refl
    by_kind (kinds.TestAttemptFailedWillRetry event) =
        quiet (event.failed.test.unit == k) (failed event.failed.status) refl
    by_kind (kinds.TestRetryStarted event) = by_unit (event.retry.start.test.unit == k)
      where
        by_unit : (b : Bool) → retried_in (cons_option (if b then Some (retried event.retry.attempt) else None) t)
            ≡ length (cons_option (if b then Some event.retry else None) rs)
        by_unit true = omega arith
        by_unit false = same
    by_kind kind = same

pub retried-told : (k : ℕ) (es : List ReporterEvent) → retried_in (account_of k es) ≡ length (retries_told k es)
retried-told k [] = refl
retried-told k (e ∷ es) = count_one k e (account_of k es) (retries_told k es) (retried-told k es)

-- so what an account tells of attempts is numbered so
abbrev AreTries : ℕ → List Try → Type 0
AreTries a ts = ts ≡ tries_from a (length ts)

abbrev retry_numbers : List TestRetry → List ℕ
retry_numbers retries = map (λ r. r.attempt) retries

-- after attempts that are tried again nothing is told, or that the attempt of this number failed, or the finish
abbrev EndsWith : ℕ → List News → Type 0
EndsWith a [] = ⊤
EndsWith a (failed s ∷ []) = s.attempt ≡ a
EndsWith a (finished ss ∷ []) = ⊤
EndsWith a _ = ⊥

last_tries : (a : ℕ) (last : List News) (rs : List TestRetry) → EndsWith a last → AreTries a (labelled last rs)
last_tries a [] rs h = refl
last_tries a (failed s ∷ []) rs h = ap (λ n. failure_of n ∷ []) h
last_tries a (finished ss ∷ []) rs h = refl
last_tries a (n ∷ news) rs h = absurd h

tries : (early : List ExecuteStatus) (last : List News) (rs : List TestRetry) (a : ℕ) → AreFrom a (attempts_of early)
    → EndsWith (a + length early) last → AreFrom (a + 1) (retry_numbers rs) → length rs ≡ length early
    → AreTries a (labelled (tried_from a early ++ last) rs)
tries [] last rs a from ends numbers many = last_tries a last rs (subst (λ n. EndsWith n last) (omega arith) ends)
tries (s ∷ early) last [] a from ends numbers many = absurd (omega (arith, many))
tries (s ∷ early) last (r ∷ rs) a from ends numbers many =
    let same : a + length (s ∷ early) ≡ (a + 1) + length early = omega arith in
    ap (λ n. failure_of n ∷ retry_to r.attempt ∷ labelled (tried_from (a + 1) early ++ last) rs) from.0
    ∙ ap (λ n. failure_of a ∷ retry_to n ∷ labelled (tried_from (a + 1) early ++ last) rs) numbers.0
    ∙ ap (λ ts. failure_of a ∷ retry_to (a + 1) ∷ ts) (tries early last rs (a + 1) from.1
    (subst (λ n. EndsWith n last) same ends) numbers.1 (omega (arith, many)))

last_count : (a : ℕ) (last : List News) → EndsWith a last → retried_in last ≡ 0
last_count a [] h = refl
last_count a (failed s ∷ []) h = refl
last_count a (finished ss ∷ []) h = refl
last_count a (n ∷ news) h = absurd h

tried_from_count : (n : ℕ) (early : List ExecuteStatus) (last : List News) → retried_in last ≡ 0
    → retried_in (tried_from n early ++ last) ≡ length early
tried_from_count n [] last none = none
tried_from_count n (s ∷ early) last none = omega (arith, tried_from_count (n + 1) early last none)

pub tried_count : (early : List ExecuteStatus) (last : List News) → retried_in last ≡ 0
    → retried_in (tried early ++ last) ≡ length early
tried_count early last none = tried_from_count 1 early last none

-- an account and the retries that it has
abbrev AreTold : List TestRetry → List News → Type 0
AreTold rs t = retried_in t ≡ length rs → AreTries 1 (labelled t rs)

begun : (rs : List TestRetry) (early : List ExecuteStatus) (last : List News) → AreFrom 2 (retry_numbers rs)
    → AreFrom 1 (attempts_of early) → EndsWith (1 + length early) last → AreTold rs (started ∷ tried early ++ last)
begun rs early last numbers from ends many =
    tries early last rs 1 from ends numbers
    (sym many ∙ tried_count early last (last_count (1 + length early) last ends))

-- by its phase and the attempts that have ended
by_phase : (mm left : Bool) (ph : Phase) (ss : List ExecuteStatus) (t q : List News) (rs : List TestRetry)
    → AreFrom 2 (retry_numbers rs) → AreFrom 1 (attempts_of ss) → HasAccountAt mm left ph ss t q → AreTold rs t
by_phase mm left ph ss t q rs numbers from h = by_case mm left ph ss from h
  where
    none : t ≡ [] → AreTold rs t
    none is = subst (AreTold rs) (sym is) (λ many. refl)

    skip : t ≡ skipped ∷ [] → AreTold rs t
    skip is = subst (AreTold rs) (sym is) (λ many. refl)

    open_told : (ss : List ExecuteStatus) → AreFrom 1 (attempts_of ss) → t ≡ started ∷ tried ss → AreTold rs t
    open_told ss from is = subst (AreTold rs) (sym (is ∙ ap (λ ts. started ∷ ts) (sym (append-nil (tried ss)))))
        (begun rs ss [] numbers from tt)

    split : (ss early : List ExecuteStatus) (s : ExecuteStatus) → AreFrom 1 (attempts_of ss) → ss ≡ early ++ s ∷ []
        → AreFrom 1 (attempts_of early) × (s.attempt ≡ 1 + length early)
    split ss early s from e =
        let apart = from_split 1 (attempts_of early) s.attempt (subst (AreFrom 1)
        (ap attempts_of e ∙ map-append (λ (s : ExecuteStatus). s.attempt) early (s ∷ [])) from) in
        (apart.0, apart.1 ∙ ap (λ n. 1 + n) (length-map early (λ (s : ExecuteStatus). s.attempt)))

    early_told : (ss early : List ExecuteStatus) (s : ExecuteStatus) → AreFrom 1 (attempts_of ss) → ss ≡ early ++ s ∷ []
        → t ≡ started ∷ tried early → AreTold rs t
    early_told ss early s from e is = open_told early (split ss early s from e).0 is

    failed_told : (ss early : List ExecuteStatus) (s : ExecuteStatus) → AreFrom 1 (attempts_of ss)
        → ss ≡ early ++ s ∷ []
        → t ≡ started ∷ tried early ++ failed s ∷ [] → AreTold rs t
    failed_told ss early s from e is =
        let apart = split ss early s from e in
        subst (AreTold rs) (sym is) (begun rs early (failed s ∷ []) numbers apart.0 apart.1)

    finished_told : (ss early fs : List ExecuteStatus) (s : ExecuteStatus) → AreFrom 1 (attempts_of ss)
        → ss ≡ early ++ s ∷ [] → t ≡ started ∷ tried early ++ finished fs ∷ [] → AreTold rs t
    finished_told ss early fs s from e is =
        subst (AreTold rs) (sym is) (begun rs early (finished fs ∷ []) numbers (split ss early s from e).0 tt)

    by_case : (mm left : Bool) (ph : Phase) (ss : List ExecuteStatus) → AreFrom 1 (attempts_of ss)
        → HasAccountAt mm left ph ss t q → AreTold rs t
    by_case false left StartSent ss from (empty, (is, waits)) = none is
    by_case false left Starting ss from (is, waits) = open_told ss from is
    by_case false left Running ss from (is, waits) = open_told ss from is
    by_case false left Grace ss from (is, waits) = open_told ss from is
    by_case false left KillWait ss from (is, waits) = open_told ss from is
    by_case false left Leak ss from (is, waits) = open_told ss from is
    by_case false left EnvWait ss from (is, waits) = open_told ss from is
    by_case false left Deciding ss from (early, (s, (e, (is, waits)))) = early_told ss early s from e is
    by_case false left Delay ss from (early, (s, (e, inl (is, waits)))) = early_told ss early s from e is
    by_case false left Delay ss from (early, (s, (e, inr (is, waits)))) = failed_told ss early s from e is
    by_case false left RetrySent ss from (early, (s, (e, inl (is, waits)))) = early_told ss early s from e is
    by_case false left RetrySent ss from (early, (s, (e, inr (is, waits)))) = failed_told ss early s from e is
    by_case false true Over ss from (early, (s, (e, (is, waits)))) = failed_told ss early s from e is
    by_case false false Over [] from (is, waits) = none is
    by_case false false Over (x ∷ ss) from (early, (s, (e, inl (is, waits)))) = early_told (x ∷ ss) early s from e is
    by_case false false Over (x ∷ ss) from (early, (s, (e, inr (is, waits)))) =
        finished_told (x ∷ ss) early (x ∷ ss) s from e is
    by_case true left Over [] from (inl (is, waits)) = none is
    by_case true left Over [] from (inr (is, waits)) = skip is
    by_case true left Over (s ∷ ss) from h = absurd h
    by_case true left ph ss from h = absurd h

-- so of each unit
by_unit : (mm left : Bool) (terms : AttemptTerms) (v : Option UnitView) (story : List OwnTurn) (t q : List News)
    (w : Way)
    (rs : List TestRetry) → AreFrom 2 (retry_numbers rs) → IsMadeIf terms v story → IsOnWay mm v w
    → HasAccount mm left v t q
    → AreTold rs t
by_unit mm left terms None story t q w rs numbers made way h = subst (AreTold rs) (sym h.0) (λ many. refl)
by_unit mm left terms (Some u) story t q w rs numbers made way h =
    by_phase mm left u.phase u.statuses t q rs numbers (unit_numbered mm left terms u (pieces story) t q w made way h) h

-- the retries that are told are numbered from 2 on
range_from : (p : Settings) (index : Option StressIndex) (k : ℕ) (test : PlanTest) (slot : TestSlotAssignment) (n a : ℕ)
    → AreFrom a (retry_numbers (map (retry_as p index k test slot) (range_with_len a n)))
range_from p index k test slot zero a = tt
range_from p index k test slot (suc n) a = (refl, range_from p index k test slot n (a + 1))

retries_from : (p : Settings) (index : Option StressIndex) (k n : ℕ) (o : Option PlanTest)
    (s : Option TestSlotAssignment)
    → AreFrom 2 (retry_numbers (retries_as p index k o s n))
retries_from p index k n None s = tt
retries_from p index k n (Some test) None = tt
retries_from p index k n (Some test) (Some slot) = range_from p index k test slot n 2

pub tries_numbered : (p : Settings) (backward : List Entry) → IsLegalBackward p backward → (k : ℕ)
    → AreNumbered k (told (sub_run (history p backward)))
tries_numbered p backward legal k =
    subst (AreTries 1) (sym (tries-told k events))
    (by_unit (is_mismatched p k) (was_left k run) (unit_terms p k) (unit_of k run) (story_of k run)
    (account_of k events)
    (pending_of k (queue run)) (way_of k run) (retries_told k events)
    (subst (λ rs. AreFrom 2 (retry_numbers rs)) (sym (retries_ordered p backward legal k))
    (retries_from p (stress_index p (history p backward)) k _ (test_of_unit p k) (slots_told k events)))
    (h.made k) (h.on_way k) (h.accounts k) (retried-told k events))
  where
    run : List Happening
    run = sub_run (history p backward)

    events : List ReporterEvent
    events = told run

    h : HoldsAfter p (history p backward)
    h = holds p backward legal
