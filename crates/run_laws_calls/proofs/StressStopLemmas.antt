-- Where a run ends, and a stress run stops.
use Rattle.std.proofs.Common.{◌≡◌, ℕ, suc, ◌+◌, ◌==◌, ◌||◌, nat_le, nat_lt, List, [], ◌∷◌, length, Bool, true, false}
use Rattle.std.proofs.Common.{Option, Some, None}
use Rattle.std.proofs.Common.{if◌then◌else◌, is_none, is_some, reverse, refl, ap, sym, subst, ◌∙◌, arith}
use Rattle.std.specs.List.{list_any}
use Rattle.std.proofs.lemmas.List.{reverse-append}
use Rattle.std.proofs.lemmas.List.Elements.{All-head}
use Rattle.run_laws_calls.specs.StressStops.{EndsTheRun, RunsStop, elapsed_told, ends_with, is_used_up}
use Rattle.run_laws_calls.proofs.SubRunLemmas.{EndsRun, ends_run}
use Rattle.run_laws_calls.proofs.SuccessLemmas.{each_uncancelled, reason_is}
use Rattle.run_laws_calls.proofs.ToldLemmas.{causes_told}
use Rattle.std.specs.Int.NonZero.{non_zero_u32_get}
use Rattle.run_commands.specs.declared.stress_count.StressCondition.{StressCondition}
use Rattle.run_events.specs.declared.events.ReporterEvent.TheVariants.{Test}
use Rattle.run_events.specs.declared.settings.Settings.{Settings}
use Rattle.run_model.specs.declared.entry.Entry.{Entry}
use Rattle.run_model.specs.declared.happening.Happening.{Happening}
use Rattle.run_model.specs.Journal.{past_of, IsLegalBackward, history}
use Rattle.run_model.specs.Turns.{happening, ends_as, progress_of}
use Rattle.run_model.specs.Words.{ended_runs, sub_run, told, clock, stats}
use Rattle.run_laws_calls.specs.Stops.{tells_cancel}
use Rattle.run_commands.specs.declared.stress_count.StressCondition.TheVariants as conditions
use Rattle.run_commands.specs.declared.stress_count.StressCount.TheVariants as counts
use Rattle.std.specs.List.{All}
use Rattle.run_events.specs.Outcome.{outcome_of, summary}
use Rattle.run_events.specs.declared.outcome.RunOutcome.TheVariants.{Failed, NoTestsRun, Success}
use Rattle.run_model.specs.SubRuns.{summary_of, is_cancelled, progress_at}
use Rattle.run_laws_calls.specs.Success.{fails_test, finishes_test, EndsAsTold}
use Rattle.std.proofs.Common.{◌-◌}
use Rattle.run_events.specs.Stress.{remaining}
use Rattle.run_events.specs.declared.outcome.FinalRunStats.{FinalRunStats}
use Rattle.run_events.specs.declared.stats.RunStats.{RunStats}
use Rattle.run_model.specs.declared.dispatcher_view.DispatcherView.{DispatcherView}
use Rattle.run_model.specs.Board.{Deed}
use Rattle.run_laws.proofs.board.Kept.{does_after, holds}
use Rattle.run_laws.proofs.board.OnBoard.{board_of, frame_of}
use Rattle.run_events.specs.declared.outcome.FinalRunStats.TheVariants as finals
use Rattle.run_events.specs.declared.stress.StressRemaining.TheVariants.{Runs, Infinite, Time}
use Rattle.run_clock.specs.Stopwatch.{active_by}
use Rattle.run_events.specs.declared.outcome.RunStep.TheVariants as steps

-- what remains of a stress run
used_up : (condition : StressCondition) (ended elapsed : ℕ)
    → is_none (remaining (progress_at condition ended elapsed)) ≡ is_used_up condition ended elapsed
used_up (conditions.Count counts.Infinite) ended elapsed = refl
used_up (conditions.Count (counts.Count many)) ended elapsed = by_order (nat_lt ended (non_zero_u32_get many)) refl
  where
    by_order : (b : Bool) → nat_lt ended (non_zero_u32_get many) ≡ b
        → is_none (if b then Some (Runs (non_zero_u32_get many - ended)) else None)
        ≡ nat_le (non_zero_u32_get many) ended
    by_order true is = grind (arith, is)
    by_order false is = grind (arith, is)
used_up (conditions.Duration ns) ended elapsed = by_order (nat_lt elapsed ns) refl
  where
    by_order : (b : Bool) → nat_lt elapsed ns ≡ b
        → is_none (if b then Some (Time (ns - elapsed)) else None) ≡ nat_le ns elapsed
    by_order true is = grind (arith, is)
    by_order false is = grind (arith, is)

-- a sub-run in which no event told that the run is cancelled isn't cancelled
uncancelled : (s : FinalRunStats) (failed some : Bool)
    → outcome_of s ≡ (if failed then Failed steps.Test else if some then Success else NoTestsRun)
    → is_cancelled s ≡ false
uncancelled finals.Success failed some is = refl
uncancelled finals.NoTestsRun failed some is = refl
uncancelled (finals.Failed step) failed some is = refl
uncancelled (finals.Cancelled reason step) true some is = cc
uncancelled (finals.Cancelled reason step) false true is = cc
uncancelled (finals.Cancelled reason step) false false is = cc

joined : (a b c d : Bool) → (a ≡ false → b ≡ false) → (a || b || c || d) ≡ (a || c || d)
joined true b c d none = refl
joined false b c d none = rw (none refl) refl

ends_so : (p : Settings) (e : Entry) (before : List Entry) → IsLegalBackward p (e ∷ before)
    → (happening p (history p before) e).ends ≡ true
    → (happening p (history p before) e).over
    ≡ ends_with p.stress
    (list_any tells_cancel (told (sub_run (happening p (history p before) e ∷ history p before))))
    (length (ended_runs (happening p (history p before) e ∷ history p before)))
    (elapsed_told (happening p (history p before) e).told)
ends_so p e before legal ends =
    subst (λ (d : Deed). d.over ≡ ends_with p.stress (list_any tells_cancel (told run)) (length (ended_runs (x ∷ past)))
    (elapsed_told d.told)) (sym end.same) (by_stress p.stress)
  where
    past : List Happening
    past = history p before

    x : Happening
    x = happening p past e

    run : List Happening
    run = sub_run (x ∷ past)

    end : EndsRun p past e
    end = ends_run p past e (holds p before legal.2) legal.0 ends

    d : DispatcherView
    d = (board_of p (frame_of p past) (clock past) end.base).dispatcher

    caused : is_some (stats p end.base).cancel_reason ≡ list_any tells_cancel (told run)
    caused = ap (λ (s : RunStats). is_some s.cancel_reason) (sym end.counted) ∙ ap is_some (reason_is p run)
        ∙ (causes_told p (e ∷ before) legal).any

    calm : is_some (stats p end.base).cancel_reason ≡ false → is_cancelled (summary (stats p end.base)) ≡ false
    calm none =
        let told_none : list_any tells_cancel (told run) ≡ false = sym caused ∙ none in
        let all = each_uncancelled p (e ∷ before) legal in
        ap (λ s. is_cancelled (summary s)) (sym end.counted)
        ∙ uncancelled (summary_of p run) (list_any fails_test (told run)) (list_any finishes_test (told run))
        (All-head (EndsAsTold p) run (ended_runs past) (subst (All (EndsAsTold p)) end.runs all) told_none)

    many : d.sub_runs.ended + 1 ≡ length (ended_runs (x ∷ past))
    many = one (length (ended_runs past)) ∙ sym (ap length end.runs)
      where
        one : (n : ℕ) → n + 1 ≡ suc n
        one n = omega arith

    by_stress : (o : Option StressCondition) → (ends_as (clock past) d o).over
        ≡ ends_with o (list_any tells_cancel (told run)) (length (ended_runs (x ∷ past)))
        (elapsed_told (ends_as (clock past) d o).told)
    by_stress None = refl
    by_stress (Some condition) =
        joined (is_some (stats p end.base).cancel_reason) (is_cancelled (summary (stats p end.base)))
        (is_none (remaining (progress_of (clock past) d (d.sub_runs.ended + 1) condition)))
        (d.sub_runs.ended + 1 == 4294967295) calm
        ∙ ap (λ b. is_some (stats p end.base).cancel_reason || b || (d.sub_runs.ended + 1 == 4294967295))
        (used_up condition (d.sub_runs.ended + 1) (active_by d.watch (clock past)))
        ∙ ap (λ b. b || is_used_up condition (d.sub_runs.ended + 1) (active_by d.watch (clock past))
        || (d.sub_runs.ended + 1 == 4294967295)) caused
        ∙ ap (λ n. list_any tells_cancel (told run) || is_used_up condition n (active_by d.watch (clock past))
        || (n == 4294967295)) many

pub runs_stop : RunsStop
runs_stop p journal e legal =
    let backward : IsLegalBackward p (e ∷ reverse journal) =
    subst (IsLegalBackward p) (reverse-append journal (e ∷ [])) legal in record {
      only = (does_after p (past_of p journal) e (holds p (reverse journal) backward.2) backward.0).marks.finishes;
      where_ends = ends_so p e (reverse journal) backward;
    }
