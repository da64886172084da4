-- No more retries of a test are told than the plan gives it.
use Rattle.std.specs.Prelude.{IfSome}
use Rattle.std.proofs.Common.{◌≡◌, inl, inr, ℕ, zero, suc, ◌+◌, ◌-◌, ◌<◌, ◌≤◌, List, [], ◌∷◌, ◌++◌, length}
use Rattle.std.proofs.Common.{Bool, true, false}
use Rattle.std.proofs.Common.{if◌then◌else◌, Option, Some, None, slice_get, unwrap_or, refl, ap, sym, subst, ◌∙◌, arith}
use Rattle.std.proofs.Common.{append-nil, length-append}
use Rattle.run_events.specs.declared.plan.PlanTest.{PlanTest}
use Rattle.run_events.specs.declared.result.ExecuteStatus.{ExecuteStatus}
use Rattle.run_events.specs.declared.retry_policy.RetryPolicy.{RetryPolicy}
use Rattle.run_events.specs.declared.settings.Settings.{Settings}
use Rattle.run_model.specs.declared.entry.Entry.{Entry}
use Rattle.run_model.specs.declared.happening.Happening.{Happening}
use Rattle.run_model.specs.declared.phase.Phase.{Phase}
use Rattle.run_model.specs.declared.phase.Phase.TheVariants.{StartSent, Starting, Running, Grace, KillWait, Leak}
use Rattle.run_model.specs.declared.phase.Phase.TheVariants.{EnvWait, Deciding, Delay, RetrySent, Over}
use Rattle.run_model.specs.declared.unit_view.AttemptTerms.{AttemptTerms}
use Rattle.run_model.specs.declared.unit_view.UnitView.{UnitView}
use Rattle.run_model.specs.Accounts.{News, started, failed, finished, tried, HasAccount, HasAccountAt, account_of}
use Rattle.run_model.specs.Accounts.{is_mismatched, pending_of}
use Rattle.run_model.specs.Admission.{is_script, scripts_in, terms_if, unit_terms}
use Rattle.run_model.specs.Backoff.{retry_count}
use Rattle.run_model.specs.Fates.{MeetsAttemptLaw}
use Rattle.run_model.specs.Journal.{history, IsLegalBackward}
use Rattle.run_model.specs.Story.{OwnTurn, story_of, is_at_retry}
use Rattle.run_model.specs.Words.{queue, sub_run, told, unit_of}
use Rattle.run_laws.proofs.units.AttemptLemmas.{IsMadeIf}
use Rattle.run_laws.proofs.board.Holds.{HasEndedAs, IsOnWay, IsOnWayIn, Way, way_of}
use Rattle.run_laws.proofs.board.Kept.{HoldsAfter, holds}
use Rattle.run_laws_events.specs.Names.{planned_retries, test_of_unit}
use Rattle.run_laws_events.specs.Retries.{AreRetriesFew, retries_told}
use Rattle.run_laws_events.proofs.Tries.{retried_in, retried-told, tried_count}

-- how many attempts there are before the last
before_last : (ss early : List ExecuteStatus) (s : ExecuteStatus) → ss ≡ early ++ s ∷ [] → length ss ≡ length early + 1
before_last ss early s e = ap length e ∙ length-append early (s ∷ [])

-- attempts that meet their law are one more than the retries at most
law_few : (n : ℕ) (ss : List ExecuteStatus) → MeetsAttemptLaw n ss → length ss ≤ n + 1
law_few n [] h = absurd h
law_few n (s ∷ []) h = omega arith
law_few n (s ∷ t ∷ ss) h =
    let some : 0 < n = h.1 in
    let rest : length (t ∷ ss) ≤ n - 1 + 1 = law_few (n - 1) (t ∷ ss) h.2 in omega arith

-- an account has no more retries than are left to its unit
abbrev IsFew : ℕ → List News → Type 0
IsFew n t = retried_in t ≤ n

few : (n : ℕ) (t last : List News) (early : List ExecuteStatus) → t ≡ started ∷ tried early ++ last
    → retried_in last ≡ 0
    → length early ≤ n → IsFew n t
few n t last early is none within = subst (IsFew n) (sym is) (omega (arith, tried_count early last none))

plain : (n : ℕ) (t : List News) (early : List ExecuteStatus) → t ≡ started ∷ tried early → length early ≤ n → IsFew n t
plain n t early is within =
    few n t [] early (is ∙ ap (λ ts. started ∷ ts) (sym (append-nil (tried early)))) refl within

none_few : (n : ℕ) (t : List News) → retried_in t ≡ 0 → IsFew n t
none_few n t is = omega arith

ended_few : (stopped : Option ℕ) (n : ℕ) (ss : List ExecuteStatus) → HasEndedAs stopped n ss → length ss ≤ n + 1
ended_few (Some m) n ss h = let within : length ss ≤ n = h.0.1 in omega arith
ended_few None n ss h = law_few n ss h

by_phase : (n attempt : ℕ) (ph : Phase) (ss : List ExecuteStatus) (t q : List News) (w : Way)
    → IsOnWayIn n ph attempt ss w
    → HasAccountAt false (is_at_retry w.stopped) ph ss t q → IsFew n t
by_phase n attempt StartSent ss t q w way (empty, (is, waits)) = none_few n t (ap retried_in is)
by_phase n attempt Starting ss t q w way (is, waits) = plain n t ss is way.2.1
by_phase n attempt Running ss t q w way (is, waits) = plain n t ss is way.2.1
by_phase n attempt Grace ss t q w way (is, waits) = plain n t ss is way.2.1
by_phase n attempt KillWait ss t q w way (is, waits) = plain n t ss is way.2.1
by_phase n attempt Leak ss t q w way (is, waits) = plain n t ss is way.2.1
by_phase n attempt EnvWait ss t q w way (is, waits) = plain n t ss is way.2.1
by_phase n attempt Deciding ss t q w (under, at, (first, (r, (f, failing)))) (early, (s, (e, (is, waits)))) =
    let within : length first ≤ n = failing.1 in
    plain n t early is (omega (arith, before_last ss early s e, before_last ss first r f))
by_phase n attempt Delay ss t q w way (early, (s, (e, inl (is, waits)))) =
    let within : length ss ≤ n = way.2.1 in plain n t early is (omega (arith, before_last ss early s e))
by_phase n attempt Delay ss t q w way (early, (s, (e, inr (is, waits)))) =
    let within : length ss ≤ n = way.2.1 in
    few n t (failed s ∷ []) early is refl (omega (arith, before_last ss early s e))
by_phase n attempt RetrySent ss t q w way (early, (s, (e, inl (is, waits)))) =
    let within : length ss ≤ n = way.2.1 in plain n t early is (omega (arith, before_last ss early s e))
by_phase n attempt RetrySent ss t q w way (early, (s, (e, inr (is, waits)))) =
    let within : length ss ≤ n = way.2.1 in
    few n t (failed s ∷ []) early is refl (omega (arith, before_last ss early s e))
by_phase n attempt Over ss t q w way h = over w.stopped ss way h
  where
    over : (stopped : Option ℕ) (ss : List ExecuteStatus)
        → IsOnWayIn n Over attempt ss (record { delivered = w.delivered; stopped = stopped })
        → HasAccountAt false (is_at_retry stopped) Over ss t q → IsFew n t
    over (Some (suc m)) [] way (early, (s, (e, (is, waits)))) =
        let many : 0 ≡ length early + 1 = before_last [] early s e in absurd (omega arith)
    over (Some (suc m)) (x ∷ ss) way (early, (s, (e, (is, waits)))) =
        let within : length (x ∷ ss) ≤ n + 1 = ended_few (Some (suc m)) n (x ∷ ss) way.1 in
        few n t (failed s ∷ []) early is refl (omega (arith, before_last (x ∷ ss) early s e))
    over (Some zero) [] way (is, waits) = none_few n t (ap retried_in is)
    over (Some zero) (x ∷ ss) way h = let none : length (x ∷ ss) ≡ 0 = way.1.1 in absurd (omega arith)
    over None [] way (is, waits) = none_few n t (ap retried_in is)
    over None (x ∷ ss) way (early, (s, (e, inl (is, waits)))) =
        let within : length (x ∷ ss) ≤ n + 1 = ended_few None n (x ∷ ss) way.1 in
        plain n t early is (omega (arith, before_last (x ∷ ss) early s e))
    over None (x ∷ ss) way (early, (s, (e, inr (is, waits)))) =
        let within : length (x ∷ ss) ≤ n + 1 = ended_few None n (x ∷ ss) way.1 in
        few n t (finished (x ∷ ss) ∷ []) early is refl (omega (arith, before_last (x ∷ ss) early s e))

skip_few : (n : ℕ) (left : Bool) (ph : Phase) (ss : List ExecuteStatus) (t q : List News)
    → HasAccountAt true left ph ss t q
    → IsFew n t
skip_few n left Over [] t q (inl (is, waits)) = none_few n t (ap retried_in is)
skip_few n left Over [] t q (inr (is, waits)) = none_few n t (ap retried_in is)
skip_few n left Over (s ∷ ss) t q h = absurd h
skip_few n left ph ss t q h = absurd h

by_unit : (mm : Bool) (terms : AttemptTerms) (v : Option UnitView) (story : List OwnTurn) (t q : List News) (w : Way)
    → IsMadeIf terms v story → IsOnWay mm v w → HasAccount mm (is_at_retry w.stopped) v t q
    → IsFew (retry_count terms.retries) t
by_unit mm terms None story t q w made way h = none_few (retry_count terms.retries) t (ap retried_in h.0)
by_unit true terms (Some u) story t q w made way h =
    skip_few (retry_count terms.retries) (is_at_retry w.stopped) u.phase u.statuses t q h
by_unit false terms (Some u) story t q w made way h =
    subst (λ (terms : AttemptTerms). IsFew (retry_count terms.retries) t) made.terms
    (by_phase (retry_count u.terms.retries) u.attempt u.phase u.statuses t q w way h)

-- a unit that is a test has as many as the plan says
count_so : (o : Option RetryPolicy) (test : PlanTest) → retry_count (unwrap_or o test.retries) ≡ planned_retries o test
count_so None test = refl
count_so (Some retries) test = refl

planned_count : (p : Settings) (k : ℕ) (test : PlanTest) → test_of_unit p k ≡ Some test
    → retry_count (unit_terms p k).retries ≡ planned_retries p.retries test
planned_count p k test is = by_script (is_script p k) refl is
  where
    by_script : (b : Bool) → is_script p k ≡ b
        → (if b then None else slice_get p.plan.tests (k - scripts_in p)) ≡ Some test
        → retry_count (unit_terms p k).retries ≡ planned_retries p.retries test
    by_script true kind is = cc
    by_script false kind is =
        rw kind (ap (λ o. retry_count (terms_if p o).retries) is ∙ count_so p.retries test)

pub retries_few : (p : Settings) (backward : List Entry) → IsLegalBackward p backward → (k : ℕ)
    → AreRetriesFew p k (told (sub_run (history p backward)))
retries_few p backward legal k = by_test (test_of_unit p k) refl
  where
    run : List Happening
    run = sub_run (history p backward)

    h : HoldsAfter p (history p backward)
    h = holds p backward legal

    within : length (retries_told k (told run)) ≤ retry_count (unit_terms p k).retries
    within = subst (λ n. n ≤ retry_count (unit_terms p k).retries) (retried-told k (told run))
        (by_unit (is_mismatched p k) (unit_terms p k) (unit_of k run) (story_of k run) (account_of k (told run))
        (pending_of k (queue run)) (way_of k run) (h.made k) (h.on_way k) (h.accounts k))

    by_test : (o : Option PlanTest) → test_of_unit p k ≡ o
        → IfSome o (λ test. length (retries_told k (told run)) ≤ planned_retries p.retries test)
    by_test None is = tt
    by_test (Some test) is = subst (λ n. length (retries_told k (told run)) ≤ n) (planned_count p k test is) within
