-- The slow reports of a unit, by the plan's own numbers; and the terms of scripts.
use Rattle.std.proofs.Common.{◌≡◌, ℕ, zero, suc, ◌+◌, ◌-◌, ◌<◌, ◌≤◌, ◌&&◌, ◌==◌, not, nat_le, nat_lt, max}
use Rattle.std.proofs.Common.{List, [], ◌∷◌, length, Bool, true, false, if◌then◌else◌, Option, Some, None}
use Rattle.std.proofs.Common.{option_to_list, slice_get, refl, ap, sym, subst, ◌∙◌, arith}
use Rattle.std.specs.List.{All}
use Rattle.std.proofs.lemmas.Bool.{and_parts}
use Rattle.std.proofs.lemmas.List.Elements.{All-nil, All-cons, All-append}
use Rattle.run_events.specs.declared.plan.PlanScript.{PlanScript}
use Rattle.run_events.specs.declared.plan.SlowTimeout.{SlowTimeout}
use Rattle.run_events.specs.declared.settings.Settings.{Settings}
use Rattle.run_model.specs.declared.entry.Entry.{Entry}
use Rattle.run_model.specs.declared.happening.Happening.{Happening}
use Rattle.run_model.specs.declared.unit_view.UnitView.{UnitView}
use Rattle.run_model.specs.Admission.{script_terms, script_terms_if, scripts_in, terms_at, unit_terms}
use Rattle.run_model.specs.Attempts.{pieces_of}
use Rattle.run_model.specs.Journal.{IsLegalBackward, history}
use Rattle.run_model.specs.Slow.{ends_after, one_more, slow_time}
use Rattle.run_model.specs.Story.{Attempt, OwnTurn, any_is, cut, story_of}
use Rattle.run_model.specs.Timing.{ends_wait, has_timed_out, is_slow_turn, says_slow, slow_count, standing}
use Rattle.run_model.specs.Timing.{standing_after}
use Rattle.run_model.specs.Words.{queue, sub_run, told, unit_of}
use Rattle.run_laws.specs.Laws.{Extends}
use Rattle.run_laws.specs.Reports.{SlowReport, report_with, reports_by, reports_in, reports_told, reports_waiting}
use Rattle.run_laws.proofs.board.Kept.{holds, reported}
use Rattle.run_laws.proofs.units.AttemptLemmas.{IsMadeIf}
use Rattle.run_laws.proofs.units.MadeLemmas.{IsMade}
use Rattle.run_laws_rows.specs.Results.{slow_planned}
use Rattle.run_laws_rows.specs.Terms.{GoesOnce, IsOfPeriods, ScriptsGoByThemselves, has_had_all, set_for_tests}
use Rattle.run_laws_rows.proofs.NumberLemmas.{slow_times}
use Rattle.run_laws_rows.proofs.ResultLemmas.{first_of, slow_is}

-- an attempt has had all its periods exactly where it is out of time
all_had : (most : Option ℕ) (n : ℕ) → ends_after most n ≡ has_had_all most n
all_had None n = refl
all_had (Some zero) n = ap (λ m. nat_le m n) (let one : max 0 1 ≡ 1 = grind arith in one)
all_had (Some (suc most)) n =
    ap (λ m. nat_le m n) (let same : max (suc most) 1 ≡ suc most = omega arith in same)

-- a turn with which it is slow counts one more
slow_some : (slow : SlowTimeout) (t : OwnTurn) (before : List OwnTurn) → is_slow_turn slow t before ≡ true
    → 1 ≤ slow_count slow (t ∷ before)
slow_some slow t before e =
    subst (λ n. 1 ≤ n) (sym is) (counted (standing slow before).slow_count)
  where
    parts : (not (any_is ends_wait before) ≡ true) × (says_slow slow (standing slow before) t ≡ true)
    parts = and_parts (not (any_is ends_wait before)) (says_slow slow (standing slow before) t) e

    waited : (b : Bool) → not b ≡ true → b ≡ false
    waited false e = refl
    waited true e = cc

    is : slow_count slow (t ∷ before) ≡ one_more (standing slow before).slow_count
    is = ap (λ b. (if b then standing slow before else standing_after slow (standing slow before) t).slow_count)
        (waited (any_is ends_wait before) parts.0)
        ∙ ap (λ b. if b then one_more (standing slow before).slow_count else (standing slow before).slow_count) parts.1

    counted : (n : ℕ) → 1 ≤ one_more n
    counted n = omega arith

-- so each report of an attempt is of whole periods, and each of some attempts
reports_of : (slow : SlowTimeout) (attempt : ℕ) (piece : List OwnTurn)
    → All (IsOfPeriods slow) (reports_in slow attempt piece)
reports_of slow attempt [] = All-nil (IsOfPeriods slow)
reports_of slow attempt (t ∷ before) =
    All-append (IsOfPeriods slow) (reports_in slow attempt before) (option_to_list (report_with slow attempt t before))
    (reports_of slow attempt before)
    (last (is_slow_turn slow t before && not (slow.grace == 0)) refl)
  where
    report : SlowReport
    report = record {
      attempt = attempt;
      elapsed = slow_time slow (slow_count slow (t ∷ before));
      terminates = has_timed_out slow (t ∷ before);
    }

    last : (b : Bool) → (is_slow_turn slow t before && not (slow.grace == 0)) ≡ b
        → All (IsOfPeriods slow) (option_to_list (if b then Some report else None))
    last true e = All-cons (IsOfPeriods slow) report [] (record {
      count = slow_count slow (t ∷ before);
      some = slow_some slow t before (and_parts (is_slow_turn slow t before) (not (slow.grace == 0)) e).0;
      elapsed = slow_times slow (slow_count slow (t ∷ before));
      terminates = all_had slow.terminate_after (slow_count slow (t ∷ before));
    }) (All-nil (IsOfPeriods slow))
    last false e = All-nil (IsOfPeriods slow)

reports_all : (slow : SlowTimeout) (ps : List Attempt) → All (IsOfPeriods slow) (reports_by slow ps)
reports_all slow [] = All-nil (IsOfPeriods slow)
reports_all slow (cut piece after ∷ earlier) =
    All-append (IsOfPeriods slow) (reports_by slow earlier) (reports_in slow (length earlier + 1) piece)
    (reports_all slow earlier) (reports_of slow (length earlier + 1) piece)

pub of_periods : (p : Settings) (backward : List Entry) → IsLegalBackward p backward → (k : ℕ)
    → All (IsOfPeriods (slow_planned p k)) (reports_told k (told (sub_run (history p backward))))
of_periods p backward legal k =
    first_of (IsOfPeriods slow) (reports_told k (told run)) (reports_by slow (pieces_of k run)) extends
    (reports_all slow (pieces_of k run))
  where
    run : List Happening
    run = sub_run (history p backward)

    slow : SlowTimeout
    slow = slow_planned p k

    extends : Extends (reports_told k (told run)) (reports_by slow (pieces_of k run))
    extends = (
      reports_waiting k (queue run),
      ap (λ slow. reports_by slow (pieces_of k run)) (sym (slow_is p k)) ∙ sym (reported p backward legal k).reports,
    )

-- the terms of an admitted unit
pub keep_terms : (p : Settings) (backward : List Entry) → IsLegalBackward p backward → (k : ℕ) (u : UnitView)
    → unit_of k (sub_run (history p backward)) ≡ Some u → u.terms ≡ unit_terms p k
keep_terms p backward legal k u is = it.terms
  where
    it : IsMade (unit_terms p k) u (pieces_of k (sub_run (history p backward)))
    it = subst (λ v. IsMadeIf (unit_terms p k) v (story_of k (sub_run (history p backward)))) is
        ((holds p backward legal).made k)

-- and those of a script
item_at : {X : Type 0} (xs : List X) (k : ℕ) → k < length xs → (x : X) × (slice_get xs k ≡ Some x)
item_at [] k below = absurd (omega (arith, below))
item_at (x ∷ xs) zero below = (x, refl)
item_at (x ∷ xs) (suc k) below = item_at xs k (omega (arith, below))

terms_of_script : (p : Settings) (k : ℕ) (script : PlanScript) → k < scripts_in p
    → slice_get p.plan.scripts k ≡ Some script → unit_terms p k ≡ script_terms p script
terms_of_script p k script below at =
    let kind : nat_lt k (scripts_in p) ≡ true = grind (arith, below) in
    ap (λ b. if b then script_terms_if p (slice_get p.plan.scripts k) else terms_at p (k - scripts_in p)) kind
    ∙ ap (script_terms_if p) at

pub go_alone : ScriptsGoByThemselves
go_alone p interceptor retries flaky k below =
    (subst GoesOnce (sym here) (record { retries = refl; timed = refl; awaited = refl; reads = refl }), same)
  where
    q : Settings
    q = set_for_tests interceptor retries flaky p

    found : (script : PlanScript) × (slice_get p.plan.scripts k ≡ Some script)
    found = item_at p.plan.scripts k below

    here : unit_terms p k ≡ script_terms p found.0
    here = terms_of_script p k found.0 below found.1

    there : unit_terms q k ≡ script_terms q found.0
    there = terms_of_script q k found.0 below found.1

    same : unit_terms q k ≡ record (unit_terms p k) { stops = (unit_terms q k).stops }
    same = rw (here, there) refl
