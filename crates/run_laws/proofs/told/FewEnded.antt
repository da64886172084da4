-- How many sub-runs have ended: fewer than a u32 counts, with room for one more, where the run isn't over.
use Rattle.std.proofs.Common.{◌≡◌, ◌≢◌, ℕ, ◌+◌, ◌<◌, ◌^◌, ◌==◌, ◌||◌, List, [], ◌∷◌, length, Bool, true, false}
use Rattle.std.proofs.Common.{if◌then◌else◌}
use Rattle.std.proofs.Common.{Option, Some, None, is_some, is_none, ◌⊎◌, inl, inr, true≢false, refl, ap, sym, ◌∙◌}
use Rattle.std.proofs.Common.{arith}
use Rattle.std.specs.Prelude.{IsTrue}
use Rattle.run_commands.specs.declared.stress_count.StressCondition.{StressCondition}
use Rattle.run_events.specs.Outcome.{summary}
use Rattle.run_events.specs.Stress.{remaining}
use Rattle.run_events.specs.declared.settings.Settings.{Settings}
use Rattle.run_events.specs.declared.turn.Turn.TheVariants.{End}
use Rattle.run_model.specs.declared.dispatcher_view.DispatcherView.{DispatcherView}
use Rattle.run_model.specs.declared.entry.Entry.{Entry}
use Rattle.run_model.specs.declared.happening.Happening.{Happening}
use Rattle.run_model.specs.Board.{Deed}
use Rattle.run_model.specs.SubRuns.{is_cancelled}
use Rattle.run_model.specs.Turns.{enabled, ends_as, happening, progress_of}
use Rattle.run_model.specs.Words.{clock, ended_runs, is_over, sub_run}
use Rattle.run_model.specs.Journal.{history, IsLegalBackward}
use Rattle.run_laws.proofs.board.OnBoard.{board_of, frame_of}
use Rattle.run_laws.proofs.board.Kept.{HoldsAfter, does_after, IsOfRun, IsBeforeRuns, where_joins, holds}
use Rattle.run_laws.proofs.board.Order.{either_false}

last_of_four : (a b c d : Bool) → (a || b || c || d) ≡ false → d ≡ false
last_of_four true b c d h = cc
last_of_four false true c d h = cc
last_of_four false false true d h = cc
last_of_four false false false d h = h

-- a sub-run that ends as the last that a u32 counts ends the run
greatest_ends : (now : ℕ) (d : DispatcherView) (stress : Option StressCondition)
    → (ends_as now d stress).over ≡ false → d.sub_runs.ended + 1 ≢ 4294967295
greatest_ends now d None going = λ is. true≢false going
greatest_ends now d (Some condition) going = λ is.
    true≢false
    (sym (ap (λ n. n == 4294967295) is)
    ∙ last_of_four (is_some d.tally.stats.cancel_reason) (is_cancelled (summary d.tally.stats))
    (is_none (remaining (progress_of now d (d.sub_runs.ended + 1) condition)))
    (d.sub_runs.ended + 1 == 4294967295) going)

-- nor have so many ended where the run goes on after the end of one
ends_few : (p : Settings) (past : List Happening) (e : Entry) → HoldsAfter p past → IsTrue (enabled p past e.turn)
    → (happening p past e).ends ≡ true → (happening p past e).over ≡ false
    → length (ended_runs past) + 1 ≢ 4294967295
ends_few p past e h en ends going = by_run (where_joins p past e h en)
  where
    by_run : IsOfRun p past e ⊎ IsBeforeRuns p past e → length (ended_runs past) + 1 ≢ 4294967295
    by_run (inl of) =
        let end = of.does.marks.ends ends in
        greatest_ends (clock past) (board_of p (frame_of p past) (clock past) of.base).dispatcher p.stress
        (sym (ap (λ (d : Deed). d.over) end.0) ∙ going)
    by_run (inr before) =
        let never : false ≡ true = sym (ap (λ (d : Deed). d.ends) before.idle) ∙ ends in
        absurd (true≢false (sym never))

one_more : (n : ℕ) → n + 1 < 2 ^ 32 → n + 1 ≢ 4294967295 → n + 1 + 1 < 2 ^ 32
one_more n few not = omega arith

-- there is room for one more where the run isn't over
pub few-ended : (p : Settings) (backward : List Entry) → IsLegalBackward p backward
    → is_over (history p backward) ≡ false → length (ended_runs (history p backward)) + 1 < 2 ^ 32
few-ended p [] legal going = omega arith
few-ended p (e ∷ before) legal going =
    by_end (happening p past e).ends refl
    (few-ended p before legal.2 (either_false (happening p past e).over (is_over past) going).1)
  where
    past : List Happening
    past = history p before

    by_end : (b : Bool) → (happening p past e).ends ≡ b → length (ended_runs past) + 1 < 2 ^ 32
        → length (if b then sub_run (happening p past e ∷ past) ∷ ended_runs past else ended_runs past) + 1 < 2 ^ 32
    by_end false ends few = few
    by_end true ends few =
        let rest = ended_runs past in
        let more : length rest + 1 + 1 < 2 ^ 32 = one_more (length rest) few
        (ends_few p past e (holds p before legal.2) legal.0 ends
        (either_false (happening p past e).over (is_over past) going).0) in
        omega arith
