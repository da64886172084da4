-- A script that is over was told finished where it was told started.
use Rattle.std.proofs.Common.{◌≡◌, inl, inr, ℕ, ◌<◌, ◌≤◌, ◌||◌, List, [], ◌∷◌, length}
use Rattle.std.proofs.Common.{Bool, true, false, Option, Some, None}
use Rattle.std.proofs.Common.{slice_get, refl, ap, sym, subst, ◌∙◌, arith}
use Rattle.std.specs.List.{list_any}
use Rattle.std.proofs.lemmas.List.Folds.{list_any-append}
use Rattle.run_events.specs.declared.plan.PlanScript.{PlanScript}
use Rattle.run_events.specs.declared.result.ExecuteStatus.{ExecuteStatus}
use Rattle.run_events.specs.declared.settings.Settings.{Settings}
use Rattle.run_model.specs.declared.happening.Happening.{Happening}
use Rattle.run_model.specs.declared.phase.Phase.{Phase}
use Rattle.run_model.specs.declared.phase.Phase.TheVariants.{Over}
use Rattle.run_model.specs.declared.unit_view.AttemptTerms.{AttemptTerms}
use Rattle.run_model.specs.declared.unit_view.UnitView.{UnitView}
use Rattle.run_model.specs.Accounts.{News, started, finished, tried, HasAccount, HasAccountAt, is_mismatched}
use Rattle.run_model.specs.Accounts.{account_of, pending_of}
use Rattle.run_model.specs.Admission.{is_done, is_last, is_script, scripts_in, script_terms_if, unit_terms}
use Rattle.run_model.specs.Backoff.{retry_count}
use Rattle.run_model.specs.Story.{pieces, story_of, is_at_retry, was_left}
use Rattle.run_model.specs.Words.{finishes, queue, starts, told}
use Rattle.run_model.specs.Words.{unit_of}
use Rattle.run_laws.proofs.units.AttemptLemmas.{IsMade, IsMadeIf}
use Rattle.run_laws.proofs.board.Holds.{Holds, HasEndedAs, IsOnWay, IsOnWayIn, Way, way_of}
use Rattle.run_laws.proofs.board.Newcomers.{script_number}
use Rattle.run_laws.proofs.told.Running.{finishes-account, is_finish, is_start, starts-account}
use Rattle.run_laws.proofs.board.OnBoard.{Frame}
use Rattle.run_laws.proofs.told.FirstLemmas.{not_left}
use Rattle.run_laws.proofs.told.FirstLemmas.{over_finished}
use Rattle.run_laws.proofs.units.OneOff.{no_retries_of}

-- a script matches, and is on its way with no retry
script_matches : (p : Settings) (k : ℕ) → is_script p k ≡ true → is_mismatched p k ≡ false
script_matches p k script = rw script refl

pub way_of_script : (p : Settings) (f : Frame) (now : ℕ) (run : List Happening) (k : ℕ) (u : UnitView)
    → Holds p now run → unit_of k run ≡ Some u → is_script p k ≡ true
    → IsOnWayIn 0 u.phase u.attempt u.statuses (way_of k run)
way_of_script p f now run k u h is script =
    let made : IsMade (unit_terms p k) u (pieces (story_of k run)) =
    subst (λ v. IsMadeIf (unit_terms p k) v (story_of k run)) is (h.made k) in
    let none : retry_count u.terms.retries ≡ 0 =
    ap (λ (terms : AttemptTerms). retry_count terms.retries) made.terms ∙ no_retries_of p k script in
    subst (λ n. IsOnWayIn n u.phase u.attempt u.statuses (way_of k run)) none
    (subst (λ mm. IsOnWay mm (Some u) (way_of k run)) (script_matches p k script)
    (subst (λ v. IsOnWay (is_mismatched p k) v (way_of k run)) is (h.on_way k)))

pub finished_told : (p : Settings) (f : Frame) (now : ℕ) (run : List Happening) (k : ℕ) → Holds p now run
    → k < scripts_in p → is_done (unit_of k run) ≡ true → pending_of k (queue run) ≡ []
    → list_any (starts k) (told run) ≡ true → list_any (finishes k) (told run) ≡ true
finished_told p f now run k h below done none some =
    finishes-account k (told run)
    ∙ by_unit (unit_of k run) refl done (h.accounts k) (sym (starts-account k (told run)) ∙ some)
  where
    script : is_script p k ≡ true
    script = script_number p k below

    by_unit : (v : Option UnitView) → unit_of k run ≡ v → is_done v ≡ true
        → HasAccount (is_mismatched p k) (was_left k run) v (account_of k (told run)) (pending_of k (queue run))
        → list_any is_start (account_of k (told run)) ≡ true → list_any is_finish (account_of k (told run)) ≡ true
    by_unit None is done a some = cc
    by_unit (Some u) is done a some =
        over_finished u.phase u.statuses (account_of k (told run)) done
        (subst (λ left. HasAccountAt false left u.phase u.statuses (account_of k (told run)) []) left
        (subst (λ q. HasAccountAt false (was_left k run) u.phase u.statuses (account_of k (told run)) q) none
        (subst (λ mm. HasAccountAt mm (was_left k run) u.phase u.statuses (account_of k (told run))
        (pending_of k (queue run)))
        (script_matches p k script) a))) some
      where
        left : was_left k run ≡ false
        left = not_left u.phase u.attempt u.statuses (way_of k run) done
            (way_of_script p f now run k u h is script)
