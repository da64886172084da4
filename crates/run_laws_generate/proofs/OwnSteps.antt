-- What the begin, the end and a refused event do to the board of a generated run.
use Rattle.std.proofs.Common.{◌≡◌, ℕ, zero, suc, ◌+◌, ◌*◌, ◌≤◌, ◌==◌, ◌&&◌, not, List, [], ◌∷◌}
use Rattle.std.proofs.Common.{◌++◌, length, get_or, drop, Bool, true, false, Option, Some, None, is_none}
use Rattle.std.proofs.Common.{if◌then◌else◌, option_map, refl, ap, sym, ◌∙◌, subst, arith, length-append}
use Rattle.std.proofs.lemmas.List.{length-map}
use Rattle.run_events.specs.declared.cancel.CancelReason.TheVariants as reasons
use Rattle.run_events.specs.declared.events.ReporterEvent.{ReporterEvent}
use Rattle.run_events.specs.declared.request.Request.TheVariants.{OtherCancel}
use Rattle.run_events.specs.declared.settings.Settings.{Settings}
use Rattle.run_events.specs.declared.turn.Turn.TheVariants as turns
use Rattle.run_model.specs.Board.{Board, Deed, moved, step, reach_all, cleared}
use Rattle.run_model.specs.Cancel.{is_above}
use Rattle.run_model.specs.Dispatch.{is_halted, is_main}
use Rattle.run_model.specs.Rounds.{act_of}
use Rattle.run_model.specs.Turns.{begins_as, deed_on, enabled_on, ends_as, is_complete}
use Rattle.run_model.specs.Turns.{nothing_done, run_takes, sub_run_started}
use Rattle.run_model.specs.Unit.{reached}
use Rattle.run_model.specs.declared.unit_view.UnitView.{UnitView}
use Rattle.run_laws_generate.proofs.Moves.{Eases, IsCalm, ahead, ahead_on}
use Rattle.run_laws_generate.proofs.Moves.{step_eases}
use Rattle.run_laws_generate.proofs.Quiet.{quiet_after, quiet_cleared}
use Rattle.run_laws_generate.proofs.Steps.{ahead-begun, ahead-off, ahead-some, ahead-told}
use Rattle.run_laws_generate.proofs.Steps.{both-left, both-right, same_drop}
use Rattle.run_capture.proofs.Facts.{not_true}
use Rattle.run_laws_generate.proofs.Sums.{nones, nones-at, reached_easy, sum-none, sum-reach, sum_of}
use Rattle.run_laws_generate.proofs.Next.{at_rest}
use Rattle.run_laws_generate.proofs.Weights.{IsEasy}

-- the begin
pub begin_eases : (p : Settings) (b : Board) → IsCalm None b → enabled_on p b turns.Begin ≡ true
    → Eases at_rest at_rest 1 None b (step b turns.Begin (deed_on p b turns.Begin))
begin_eases p b calm en =
    step_eases at_rest at_rest 1 None b turns.Begin (deed_on p b turns.Begin)
    (by_first (b.dispatcher.sub_runs.ended == 0))
  where
    both : (not b.dispatcher.on && not b.dispatcher.over) ≡ true
    both = both-right (not b.dispatcher.over) (not b.dispatcher.on && not b.dispatcher.over) en

    off : b.dispatcher.on ≡ false
    off = not_true b.dispatcher.on (both-left (not b.dispatcher.on) (not b.dispatcher.over) both)

    going : b.dispatcher.over ≡ false
    going = not_true b.dispatcher.over (both-right (not b.dispatcher.on) (not b.dispatcher.over) both)

    sums : (n s t a c q : ℕ) → s ≡ 54 * n → t ≡ 54 * n → a ≡ n + 2 → c ≡ n + 3 → t + 0 + a + 21 + 1 ≤ s + q + c + 21
    sums n s t a c q old new after before = omega arith

    whole : length (nones b.units) ≡ length b.units
    whole = length-map b.units (λ u. None)

    fewer : sum_of (nones b.units) + 0 + ahead b.dispatcher.over true false (length (nones b.units)) + 21 + 1
        ≤ sum_of b.units + length b.queue + ahead_on b + 21
    fewer = sums (length b.units) (sum_of b.units) (sum_of (nones b.units))
        (ahead b.dispatcher.over true false (length (nones b.units))) (ahead_on b) (length b.queue)
        (sum-none b.units (calm.before off going))
        (sum-none (nones b.units) (nones-at b.units) ∙ ap (λ n. 54 * n) whole)
        (ahead-begun b.dispatcher.over true false (length (nones b.units)) going refl refl ∙ ap (λ n. n + 2) whole)
        (ahead-off b.dispatcher.over b.dispatcher.on b.dispatcher.causes.reported (length b.units) going off)

    none_there : (k : ℕ) (u : UnitView) → get_or (nones b.units) k None ≡ Some u → IsEasy b.clock false u
    none_there k u is = let never : None ≡ Some u = sym (nones-at b.units k) ∙ is in cc

    by_first : (first : Bool)
        → Eases at_rest at_rest 1 None b (moved b (begins_as b.clock b.dispatcher first))
    by_first true = record {
      calm = record {
        quiet = quiet_after b.clock (cleared b.dispatcher) (begins_as b.clock b.dispatcher true)
            (quiet_cleared b.dispatcher calm.quiet) refl refl;
        easy = none_there;
        before = λ off going. cc;
      };
      less = fewer;
      whole = whole;
    }
    by_first false = record {
      calm = record {
        quiet = quiet_after b.clock (cleared b.dispatcher) (begins_as b.clock b.dispatcher false)
            (quiet_cleared b.dispatcher calm.quiet)
            (ap (λ s. act_of (option_map (sub_run_started b.clock b.dispatcher) s)) calm.quiet.single) refl;
        easy = none_there;
        before = λ off going. cc;
      };
      less = fewer;
      whole = whole;
    }

-- the end
pub end_eases : (p : Settings) (b : Board) → IsCalm None b → enabled_on p b turns.End ≡ true
    → Eases at_rest at_rest 1 None b (step b turns.End (deed_on p b turns.End))
end_eases p b calm en =
    step_eases at_rest at_rest 1 None b turns.End (deed_on p b turns.End)
    (subst (λ s. Eases at_rest at_rest 1 None b (moved b (ends_as b.clock b.dispatcher s)))
    (sym calm.quiet.single) (record {
      calm = record {
        quiet = quiet_after b.clock b.dispatcher (ends_as b.clock b.dispatcher None) calm.quiet refl refl;
        easy = calm.easy;
        before = λ off going. cc;
      };
      less = sums (sum_of b.units) (length (drop 0 b.queue ++ [])) (length b.queue) (ahead_on b)
          (length-append (drop 0 b.queue) []) (same_drop b.queue)
          (ahead-some b.dispatcher.over b.dispatcher.on b.dispatcher.causes.reported (length b.units) going on);
      whole = refl;
    }))
  where
    going : b.dispatcher.over ≡ false
    going = not_true b.dispatcher.over (both-left (not b.dispatcher.over) (run_takes p b turns.End) en)

    on : b.dispatcher.on ≡ true
    on = both-left b.dispatcher.on (is_none b.dispatcher.rounds.asks)
        (both-left (is_main b.dispatcher) (is_complete b)
        (both-left (is_main b.dispatcher && is_complete b) (not (is_halted b.dispatcher))
        (both-right (not b.dispatcher.over) (run_takes p b turns.End) en)))

    sums : (s x q a : ℕ) → x ≡ length (drop 0 b.queue) + 0 → length (drop 0 b.queue) ≡ q → 1 ≤ a
        → s + x + 0 + 21 + 1 ≤ s + q + a + 21
    sums s x q a joined same some = omega arith

-- a refused event cancels the run
cancel_deed : Option ReporterEvent → Bool → Deed
cancel_deed after above = record nothing_done {
  cause = Some reasons.ReportError;
  after = after;
  request = if above then Some OtherCancel else None;
}

-- so it leaves the board calm
pub cancel_eases : (p : Settings) (b : Board) → IsCalm None b → enabled_on p b turns.ReportCancel ≡ true
    → Eases at_rest at_rest 1 None b (step b turns.ReportCancel (deed_on p b turns.ReportCancel))
unfolding cancel_deed
cancel_eases p b calm en =
    step_eases at_rest at_rest 1 None b turns.ReportCancel (deed_on p b turns.ReportCancel)
    (by_above (is_above b.dispatcher.tally.stats.cancel_reason reasons.ReportError)
    (deed_on p b turns.ReportCancel).after)
  where
    going : b.dispatcher.over ≡ false
    going = not_true b.dispatcher.over (both-left (not b.dispatcher.over) (run_takes p b turns.ReportCancel) en)

    taken : ((is_main b.dispatcher && b.refused) && not b.dispatcher.causes.reported) ≡ true
    taken = both-right (not b.dispatcher.over) (run_takes p b turns.ReportCancel) en

    on : b.dispatcher.on ≡ true
    on = both-left b.dispatcher.on (is_none b.dispatcher.rounds.asks)
        (both-left (is_main b.dispatcher) b.refused
        (both-left (is_main b.dispatcher && b.refused) (not b.dispatcher.causes.reported) taken))

    fresh : b.dispatcher.causes.reported ≡ false
    fresh = not_true b.dispatcher.causes.reported
        (both-right (is_main b.dispatcher && b.refused) (not b.dispatcher.causes.reported) taken)

    at_reach : (us : List (Option UnitView)) (k : ℕ)
        → get_or (reach_all (Some OtherCancel) us) k None ≡ option_map (reached OtherCancel) (get_or us k None)
    at_reach [] k = refl
    at_reach (v ∷ us) zero = refl
    at_reach (v ∷ us) (suc k) = at_reach us k

    reached_too : (v : Option UnitView) (k : ℕ) (u : UnitView) → get_or b.units k None ≡ v
        → option_map (reached OtherCancel) v ≡ Some u → IsEasy b.clock false u
    reached_too None k u at is = cc
    reached_too (Some v) k u at is =
        let same : reached OtherCancel v ≡ u = cc in
        subst (IsEasy b.clock false) same (reached_easy b.clock false v (calm.easy k v at))

    sums : (s t n x q a c : ℕ) → t ≤ s + n → x ≡ length (drop 0 b.queue) + 0 → length (drop 0 b.queue) ≡ q → a ≡ 1
        → c ≡ n + 2 → t + x + a + 21 + 1 ≤ s + q + c + 21
    sums s t n x q a c reach joined same after before = omega arith

    old : ahead_on b ≡ length b.units + 2
    old = ahead-begun b.dispatcher.over b.dispatcher.on b.dispatcher.causes.reported (length b.units) going on fresh

    by_above : (above : Bool) (after : Option ReporterEvent)
        → Eases at_rest at_rest 1 None b (moved b (cancel_deed after above))
    by_above true after = record {
      calm = record {
        quiet = quiet_after b.clock b.dispatcher (cancel_deed after true) calm.quiet refl refl;
        easy = λ k u is. reached_too (get_or b.units k None) k u refl (sym (at_reach b.units k) ∙ is);
        before = λ off going. let never : true ≡ false = sym on ∙ off in cc;
      };
      less = sums (sum_of b.units) (sum_of (reach_all (Some OtherCancel) b.units)) (length b.units)
          (length (drop 0 b.queue ++ [])) (length b.queue)
          (ahead b.dispatcher.over b.dispatcher.on true (length (reach_all (Some OtherCancel) b.units))) (ahead_on b)
          (sum-reach b.units) (length-append (drop 0 b.queue) []) (same_drop b.queue)
          (ahead-told b.dispatcher.over b.dispatcher.on (length (reach_all (Some OtherCancel) b.units)) going on) old;
      whole = length-map b.units (option_map (reached OtherCancel));
    }
    by_above false after = record {
      calm = record {
        quiet = quiet_after b.clock b.dispatcher (cancel_deed after false) calm.quiet refl refl;
        easy = calm.easy;
        before = λ off going. let never : true ≡ false = sym on ∙ off in cc;
      };
      less = sums (sum_of b.units) (sum_of b.units) (length b.units) (length (drop 0 b.queue ++ [])) (length b.queue)
          (ahead b.dispatcher.over b.dispatcher.on true (length b.units)) (ahead_on b) (omega arith)
          (length-append (drop 0 b.queue) []) (same_drop b.queue)
          (ahead-told b.dispatcher.over b.dispatcher.on (length b.units) going on) old;
      whole = refl;
    }
