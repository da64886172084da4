-- A script has one attempt.
use Rattle.std.proofs.Common.{◌≡◌, ℕ, ◌+◌, ◌≤◌, List, [], ◌∷◌, length, Bool, true, false, not, ◌&&◌, nat_le, Option}
use Rattle.std.proofs.Common.{Some, None, slice_get, refl, ap, sym, subst, ◌∙◌, arith, length-append}
use Rattle.run_events.specs.declared.plan.PlanScript.{PlanScript}
use Rattle.run_events.specs.declared.result.ExecuteStatus.{ExecuteStatus}
use Rattle.run_events.specs.declared.result.ScriptEnv.{ScriptEnv}
use Rattle.run_events.specs.declared.settings.Settings.{Settings}
use Rattle.run_model.specs.declared.happening.Happening.{Happening}
use Rattle.run_model.specs.declared.phase.Phase.{Phase}
use Rattle.run_model.specs.declared.phase.Phase.TheVariants.{Starting, Running, Grace, KillWait, Leak, EnvWait}
use Rattle.run_model.specs.declared.phase.Phase.TheVariants.{Deciding, Delay, RetrySent}
use Rattle.run_model.specs.declared.unit_view.AttemptTerms.{AttemptTerms}
use Rattle.run_model.specs.declared.unit_view.UnitView.{UnitView}
use Rattle.run_model.specs.Accounts.{is_mismatched, attempt_of}
use Rattle.run_model.specs.Admission.{is_script, script_terms_if, unit_terms}
use Rattle.run_model.specs.Attempts.{status_of}
use Rattle.run_model.specs.Backoff.{retry_count}
use Rattle.run_model.specs.Story.{Attempt, cut, pieces, story_of}
use Rattle.run_model.specs.Ending.{last_status}
use Rattle.run_model.specs.Retries.{has_passed, script_status}
use Rattle.run_model.specs.Unit.{at_moment}
use Rattle.run_model.specs.Words.{unit_of}
use Rattle.run_laws.proofs.units.AccountRows.{IsOneOff, IsTriedOnce}
use Rattle.run_laws.proofs.units.AttemptLemmas.{HasPieces, IsMade, IsMadeIf}
use Rattle.run_laws.proofs.units.GoingLemmas.{IsPast, ended_statuses-past}
use Rattle.run_laws.proofs.board.Holds.{Holds, Way, IsOnWay, IsOnWayIn, is_script_role, way_of}
use Rattle.run_laws.proofs.units.OpenRows.{is_open}

-- with no retry it is at its first attempt while that goes on, passes no delay, and isn't tried again
open_first : (ph : Phase) (attempt : ℕ) (ss : List ExecuteStatus) (w : Way) → is_open ph ≡ true
    → IsOnWayIn 0 ph attempt ss w → attempt ≡ 1
open_first Starting attempt ss w on (under, at, failed) = let few : length ss ≤ 0 = failed.1 in omega arith
open_first Running attempt ss w on (under, at, failed) = let few : length ss ≤ 0 = failed.1 in omega arith
open_first Grace attempt ss w on (under, at, failed) = let few : length ss ≤ 0 = failed.1 in omega arith
open_first KillWait attempt ss w on (under, at, failed) = let few : length ss ≤ 0 = failed.1 in omega arith
open_first Leak attempt ss w on (under, at, failed) = let few : length ss ≤ 0 = failed.1 in omega arith
open_first EnvWait attempt ss w on (under, at, failed) = let few : length ss ≤ 0 = failed.1 in omega arith
open_first ph attempt ss w on h = cc

no_delay : (attempt : ℕ) (ss : List ExecuteStatus) (w : Way) → IsOnWayIn 0 Delay attempt ss w → ⊥
no_delay attempt ss w (under, at, failed, some) = let few : length ss ≤ 0 = failed.1 in absurd (omega arith)

no_retry : (attempt : ℕ) (ss : List ExecuteStatus) (w : Way) → IsOnWayIn 0 RetrySent attempt ss w → ⊥
no_retry attempt ss w (under, at, failed, some) = let few : length ss ≤ 0 = failed.1 in absurd (omega arith)

decides_first : (attempt : ℕ) (ss : List ExecuteStatus) (w : Way) → IsOnWayIn 0 Deciding attempt ss w → attempt ≡ 1
decides_first attempt ss w (under, at, (early, (s, (e, failed)))) =
    let few : length early ≤ 0 = failed.1 in
    let long : length ss ≡ length early + 1 = ap length e ∙ length-append early (s ∷ []) in
    omega arith

not_again : (b : Bool) (attempt retries : ℕ) → attempt ≡ 1 → retries ≡ 0 → (not b && nat_le attempt retries) ≡ false
not_again true attempt retries at none = refl
not_again false attempt retries at none = rw (at, none) refl

-- its status is that of one attempt
status_single : (terms : AttemptTerms) (u : UnitView) (ps : List Attempt) (env : ScriptEnv)
    → retry_count terms.retries ≡ 0 → u.attempt ≡ 1 → u.phase ≡ Deciding → IsMade terms u ps
    → (s : ExecuteStatus) × ((u.statuses ≡ s ∷ []) × (attempt_of (script_status s env) ≡ s))
status_single terms u [] env none at ph made = absurd (subst (λ ph. HasPieces terms ph u []) ph made.has)
status_single terms u (cut piece (d ∷ after) ∷ earlier) env none at ph made =
    absurd (subst (λ ph. HasPieces terms ph u (cut piece (d ∷ after) ∷ earlier)) ph made.has)
status_single terms u (cut piece [] ∷ a ∷ earlier) env none at ph made =
    let twice : u.attempt ≡ length (a ∷ earlier) + 1 = made.attempt in absurd (omega arith)
status_single terms u (cut piece [] ∷ []) env none at ph made =
    let past : IsPast terms u piece [] = subst (λ ph. HasPieces terms ph u (cut piece [] ∷ [])) ph made.has in
    (status_of terms 0 1 piece, (past.1 ∙ ended_statuses-past terms piece [] past.0, rw none refl))

-- so a script has one attempt
script_retries : (p : Settings) (o : Option PlanScript) → retry_count (script_terms_if p o).retries ≡ 0
script_retries p None = refl
script_retries p (Some script) = refl

pub no_retries_of : (p : Settings) (k : ℕ) → is_script p k ≡ true → retry_count (unit_terms p k).retries ≡ 0
no_retries_of p k script = rw script (script_retries p (slice_get p.plan.scripts k))

once : (terms : AttemptTerms) (u : UnitView) (ps : List Attempt) (w : Way) → retry_count terms.retries ≡ 0
    → IsMade terms u ps → IsOnWay false (Some u) w → IsOneOff u
once terms u ps w none made way = record {
  attempt = λ on. open_first u.phase u.attempt u.statuses w on way0;
  never_again = λ at. no_delay u.attempt u.statuses w (in_phase Delay at);
  never_retried = λ at. no_retry u.attempt u.statuses w (in_phase RetrySent at);
  done = λ at. not_again (has_passed (last_status u.statuses)) u.attempt (retry_count u.terms.retries)
      (decides_first u.attempt u.statuses w (in_phase Deciding at)) zero_left;
  status = λ at. status_single terms u ps u.env none (decides_first u.attempt u.statuses w
      (in_phase Deciding at)) at made;
}
  where
    zero_left : retry_count u.terms.retries ≡ 0
    zero_left = ap (λ (terms : AttemptTerms). retry_count terms.retries) made.terms ∙ none

    way0 : IsOnWayIn 0 u.phase u.attempt u.statuses w
    way0 = subst (λ n. IsOnWayIn n u.phase u.attempt u.statuses w) zero_left way

    in_phase : (ph : Phase) → u.phase ≡ ph → IsOnWayIn 0 ph u.attempt u.statuses w
    in_phase ph at = subst (λ ph. IsOnWayIn 0 ph u.attempt u.statuses w) at way0

pub matches : (p : Settings) (k : ℕ) → is_script p k ≡ true → is_mismatched p k ≡ false
matches p k script = rw script refl

pub tried_once : (p : Settings) (now : ℕ) (run : List Happening) (k : ℕ) (u : UnitView)
    → Holds p now run → unit_of k run ≡ Some u → IsTriedOnce u
tried_once p now run k u h is r role =
    let script : is_script p k ≡ true = sym (h.named k u is).3 ∙ ap is_script_role role in
    once (unit_terms p k) u (pieces (story_of k run)) (way_of k run) (no_retries_of p k script)
    (subst (λ v. IsMadeIf (unit_terms p k) v (story_of k run)) is (h.made k))
    (subst (λ mm. IsOnWay mm (Some u) (way_of k run)) (matches p k script)
    (subst (λ v. IsOnWay (is_mismatched p k) v (way_of k run)) is (h.on_way k)))

-- and it is on its way with no retry
pub script_way : (p : Settings) (now : ℕ) (run : List Happening) (k : ℕ) (u : UnitView)
    → Holds p now run → unit_of k run ≡ Some u → is_script p k ≡ true
    → IsOnWayIn 0 u.phase u.attempt u.statuses (way_of k run)
script_way p now run k u h is script =
    let made : IsMade (unit_terms p k) u (pieces (story_of k run)) =
    subst (λ v. IsMadeIf (unit_terms p k) v (story_of k run)) is (h.made k) in
    let none : retry_count u.terms.retries ≡ 0 =
    ap (λ (terms : AttemptTerms). retry_count terms.retries) made.terms ∙ no_retries_of p k script in
    subst (λ n. IsOnWayIn n u.phase u.attempt u.statuses (way_of k run)) none
    (subst (λ mm. IsOnWay mm (Some u) (way_of k run)) (matches p k script)
    (subst (λ v. IsOnWay (is_mismatched p k) v (way_of k run)) is (h.on_way k)))

-- the moment of its latest turn says nothing of that
pub once_later : (now : ℕ) (u : UnitView) → IsTriedOnce u → IsTriedOnce (at_moment now u)
once_later now u once r role =
    let it = once r role in
    record {
      attempt = it.attempt;
      never_again = it.never_again;
      never_retried = it.never_retried;
      done = it.done;
      status = it.status;
    }
