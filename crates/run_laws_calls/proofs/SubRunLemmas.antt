-- What is told of the sub-runs of a stress run as they end, over every legal journal.
use Rattle.std.proofs.Common.{◌≡◌, ◌⊎◌, inl, inr, ℕ, ◌+◌, ◌-◌, ◌||◌, ◌&&◌, ◌==◌, List, [], ◌∷◌, ◌++◌, length}
use Rattle.std.proofs.Common.{count_by, cond}
use Rattle.std.proofs.Common.{Bool, true, false, if◌then◌else◌, Option, Some, None, option_to_list, is_some, is_none}
use Rattle.std.proofs.Common.{refl, ap, sym, subst, ◌∙◌, arith, reverse, suc}
use Rattle.std.specs.List.{All, list_any}
use Rattle.std.proofs.lemmas.List.{reverse-append}
use Rattle.std.proofs.lemmas.List.Elements.{All-nil, All-cons, All-head, All-tail, All-append}
use Rattle.std.proofs.lemmas.List.Folds.{list_any-append, list_any_none}
use Rattle.std.proofs.lemmas.List.Sums.{sum_by-cons}
use Rattle.run_commands.specs.declared.stress_count.StressCondition.{StressCondition}
use Rattle.run_commands.specs.declared.stress_count.StressCondition.TheVariants as conditions
use Rattle.run_events.specs.Outcome.{summary}
use Rattle.run_events.specs.Stress.{remaining}
use Rattle.run_events.specs.declared.events.ReporterEvent.{ReporterEvent}
use Rattle.run_events.specs.declared.outcome.FinalRunStats.{FinalRunStats}
use Rattle.run_events.specs.declared.outcome.FinalRunStats.TheVariants as finals
use Rattle.run_events.specs.declared.settings.Settings.{Settings}
use Rattle.run_events.specs.declared.stats.RunStats.{RunStats}
use Rattle.run_events.specs.declared.stress.StressProgress.{StressProgress}
use Rattle.run_model.specs.declared.dispatcher_view.DispatcherView.{DispatcherView}
use Rattle.run_model.specs.declared.dispatcher_view.Tally.{Tally}
use Rattle.run_model.specs.declared.entry.Entry.{Entry}
use Rattle.run_model.specs.declared.happening.Happening.{Happening}
use Rattle.run_model.specs.Board.{Deed, board, deed_events, with_cause}
use Rattle.run_model.specs.Dispatch.{having_told}
use Rattle.run_model.specs.Journal.{IsLegal, IsLegalBackward, history, past_of}
use Rattle.run_model.specs.SubRuns.{is_cancelled, is_failed, stops_after, stress_stats, summary_of, with_sub_run}
use Rattle.run_model.specs.SubRuns.{sub_runs_in}
use Rattle.run_model.specs.Turns.{deed_on, enabled, ends_as, happening, nothing_done, progress_of, run_finished}
use Rattle.run_model.specs.Turns.{stops_with, stress_finale, sub_run_finished}
use Rattle.run_model.specs.Words.{clock, ended_runs, is_over, stats, sub_run, tally, told}
use Rattle.run_laws.proofs.board.Tallies.{tally-cons, with_cause-none}
use Rattle.run_laws.proofs.board.Kept.{HoldsAfter, IsBeforeRuns, IsOfRun, does_after, holds, where_joins}
use Rattle.run_laws.proofs.board.OnBoard.{board_of, frame_of}
use Rattle.run_laws_calls.specs.Outcomes.{summary_told}
use Rattle.run_laws_calls.specs.Stops.{AreCausesTold}
use Rattle.run_laws_calls.specs.SubRunEnds.{SaysItsEnds, SaysSubRun, SaysSubRuns, TellsItsEnds, runs_ended, is_passed}
use Rattle.run_laws_calls.specs.SubRunEnds.{stress_end, sub_run_end}
use Rattle.run_laws_calls.proofs.EndLemmas.{TellsNoEnd, after_end, own_end}
use Rattle.run_laws_calls.proofs.OutcomeLemmas.{stats-run, summary-run}
use Rattle.run_laws_calls.proofs.ToldLemmas.{both_each, causes_told, each_ended}
use Rattle.run_laws_calls.proofs.WholeLemmas.{going}
use Rattle.run_laws.proofs.board.Order.{either_false}
use Rattle.run_laws_calls.proofs.ScriptLemmas.{together}

-- the end of a sub-run counts nothing
end_counts : (now : ℕ) (d : DispatcherView) (o : Option StressCondition) (t : Tally)
    → with_cause (ends_as now d o).cause (having_told (having_told t (ends_as now d o).told) (ends_as now d o).after)
    ≡ t
end_counts now d None t = with_cause-none t
end_counts now d (Some condition) t = by_stop (stops_with now d condition)
  where
    by_stop : (b : Bool) → with_cause None (having_told t
        (if b then Some (run_finished now d (stress_finale d condition)) else None)) ≡ t
    by_stop true = with_cause-none t
    by_stop false = with_cause-none t

-- a turn that ends a sub-run: of which that was before it, and what it does
pub record EndsRun (p : Settings) (past : List Happening) (e : Entry) : Type 0 where
  pub base : List Happening
  pub joins : sub_run (happening p past e ∷ past) ≡ happening p past e ∷ base
  pub same : deed_on p (board p past) e.turn
      ≡ ends_as (clock past) (board_of p (frame_of p past) (clock past) base).dispatcher p.stress
  pub counted : stats p (sub_run (happening p past e ∷ past)) ≡ stats p base
  pub runs : ended_runs (happening p past e ∷ past) ≡ sub_run (happening p past e ∷ past) ∷ ended_runs past

pub ends_run : (p : Settings) (past : List Happening) (e : Entry) → HoldsAfter p past → enabled p past e.turn ≡ true
    → (happening p past e).ends ≡ true → EndsRun p past e
ends_run p past e h en ends = by_run (where_joins p past e h en)
  where
    x : Happening
    x = happening p past e

    by_run : IsOfRun p past e ⊎ IsBeforeRuns p past e → EndsRun p past e
    by_run (inr none) = let never : false ≡ true = sym (ap (λ (d : Deed). d.ends) none.idle) ∙ ends in cc
    by_run (inl of) = record {
      base = of.base;
      joins = of.joins;
      same = (of.does.marks.ends ends).0;
      counted = ap (stats p) of.joins
          ∙ ap (λ (t : Tally). t.stats) (tally-cons p (frame_of p past) (clock past) of.base e _ of.does
          ∙ ap (λ (d : Deed). with_cause d.cause (having_told (having_told (tally p of.base) d.told) d.after))
          (of.does.marks.ends ends).0
          ∙ end_counts (clock past) (board_of p (frame_of p past) (clock past) of.base).dispatcher p.stress
          (tally p of.base));
      runs = ap (λ b. if b then sub_run (x ∷ past) ∷ ended_runs past else ended_runs past) ends;
    }

-- a stress run goes on only after a sub-run that wasn't cancelled
abbrev IsUncancelled : Settings → List Happening → Type 0
IsUncancelled p run = is_cancelled (summary_of p run) ≡ false

goes_on : (last : RunStats) (next : StressProgress) (n : ℕ) → stops_after last next n ≡ false
    → is_cancelled (summary last) ≡ false
goes_on last next n none =
    let caused : Bool = is_some last.cancel_reason in
    let cancelled : Bool = is_cancelled (summary last) in
    let three = either_false (caused || cancelled || is_none (remaining next)) (n == 4294967295) none in
    (either_false caused cancelled (either_false (caused || cancelled) (is_none (remaining next)) three.0).0).1

uncancelled_end : (p : Settings) (past : List Happening) (e : Entry) → EndsRun p past e
    → (happening p past e).over ≡ false → IsUncancelled p (sub_run (happening p past e ∷ past))
uncancelled_end p past e end none =
    ap (λ s. is_cancelled (summary s)) end.counted
    ∙ by_stress p.stress (sym (ap (λ (d : Deed). d.over) end.same) ∙ none)
  where
    d : DispatcherView
    d = (board_of p (frame_of p past) (clock past) end.base).dispatcher

    by_stress : (o : Option StressCondition) → (ends_as (clock past) d o).over ≡ false
        → is_cancelled (summary (stats p end.base)) ≡ false
    by_stress None over = cc
    by_stress (Some condition) over =
        goes_on (stats p end.base) (progress_of (clock past) d (d.sub_runs.ended + 1) condition) (d.sub_runs.ended + 1)
        over

uncancelled_all : (p : Settings) (backward : List Entry) → IsLegalBackward p backward
    → is_over (history p backward) ≡ false → All (IsUncancelled p) (ended_runs (history p backward))
uncancelled_all p [] legal going_on = All-nil (IsUncancelled p)
uncancelled_all p (e ∷ before) legal going_on =
    by_end x.ends refl (uncancelled_all p before legal.2 both.1)
  where
    past : List Happening
    past = history p before

    x : Happening
    x = happening p past e

    both : (x.over ≡ false) × (is_over past ≡ false)
    both = either_false x.over (is_over past) going_on

    by_end : (b : Bool) → x.ends ≡ b → All (IsUncancelled p) (ended_runs past)
        → All (IsUncancelled p) (if b then sub_run (x ∷ past) ∷ ended_runs past else ended_runs past)
    by_end false is earlier = earlier
    by_end true is earlier =
        All-cons (IsUncancelled p) (sub_run (x ∷ past)) (ended_runs past)
        (uncancelled_end p past e (ends_run p past e (holds p before legal.2) legal.0 is) both.0) earlier

pub cancelled_last : (p : Settings) (backward : List Entry) → IsLegalBackward p backward
    → is_over (history p backward) ≡ false
    → All (λ run. is_cancelled (summary_told p (told run)) ≡ false) (ended_runs (history p backward))
cancelled_last p backward legal going_on =
    both_each (IsUncancelled p) AreCausesTold (λ run. is_cancelled (summary_told p (told run)) ≡ false)
    (λ run is causes. sym (ap is_cancelled (summary-run p run causes)) ∙ is) (ended_runs (history p backward))
    (uncancelled_all p backward legal going_on) (each_ended AreCausesTold p (causes_told p) backward legal)

-- what is counted over sub-runs, by their events
count_told : (p : Settings) (f : FinalRunStats → Bool) (runs : List (List Happening)) → All AreCausesTold runs
    → count_by (λ run. f (summary_of p run)) runs ≡ count_by (λ run. f (summary_told p (told run))) runs
count_told p f [] all = refl
count_told p f (run ∷ runs) all =
    sum_by-cons (λ run. cond (f (summary_of p run)) 1 0) run runs
    ∙ ap (λ s. cond (f s) 1 0 + count_by (λ run. f (summary_of p run)) runs)
    (summary-run p run (All-head AreCausesTold run runs all))
    ∙ ap (λ n. cond (f (summary_told p (told run))) 1 0 + n) (count_told p f runs (All-tail AreCausesTold run runs all))
    ∙ sym (sum_by-cons (λ run. cond (f (summary_told p (told run))) 1 0) run runs)

-- each of those that weren't cancelled failed or passed
one_each : (s : FinalRunStats) → is_cancelled s ≡ false → cond (is_failed s) 1 0 + cond (is_passed s) 1 0 ≡ 1
one_each finals.Success h = refl
one_each finals.NoTestsRun h = refl
one_each (finals.Failed step) h = refl
one_each (finals.Cancelled reason step) h = cc

split_up : (p : Settings) (runs : List (List Happening)) → All (IsUncancelled p) runs
    → length runs
    ≡ count_by (λ run. is_failed (summary_of p run)) runs + count_by (λ run. is_passed (summary_of p run)) runs
split_up p [] all = refl
split_up p (run ∷ runs) all =
    let failed = sum_by-cons (λ run. cond (is_failed (summary_of p run)) 1 0) run runs in
    let passed = sum_by-cons (λ run. cond (is_passed (summary_of p run)) 1 0) run runs in
    let one = one_each (summary_of p run) (All-head (IsUncancelled p) run runs all) in
    let rest = split_up p runs (All-tail (IsUncancelled p) run runs all) in
    omega (arith, failed, passed, one, rest)

passed_one : (s : FinalRunStats) (n failed passed : ℕ) (cancelled : Bool) → cancelled ≡ false → n ≡ failed + passed
    → n + 1 - (failed + (if is_failed s then 1 else 0)) - (if is_cancelled s || cancelled then 1 else 0)
    ≡ cond (is_passed s) 1 0 + passed
passed_one finals.Success n failed passed cancelled none is = rw none (omega (arith, is))
passed_one finals.NoTestsRun n failed passed cancelled none is = rw none (omega (arith, is))
passed_one (finals.Failed step) n failed passed cancelled none is = rw none (omega (arith, is))
passed_one (finals.Cancelled reason step) n failed passed cancelled none is = omega (arith, is)

if_cond : (b : Bool) (n : ℕ) → n + (if b then 1 else 0) ≡ cond b 1 0 + n
if_cond true n = omega arith
if_cond false n = omega arith

-- so what is told of a sub-run, after its end, and of all at the end of a stress run
says_sub_run : (p : Settings) (past : List Happening) (old : List (List Happening)) (now elapsed : ℕ)
    (d : DispatcherView) (condition : StressCondition) → ended_runs past ≡ sub_run past ∷ old
    → d.sub_runs.ended ≡ length old
    → stats p (sub_run past) ≡ d.tally.stats → AreCausesTold (sub_run past)
    → SaysSubRun p past (record {
      progress = progress_of now d (d.sub_runs.ended + 1) condition;
      sub_elapsed = elapsed;
      stats = d.tally.stats;
    })
says_sub_run p past old now elapsed d condition runs ended counted causes = record {
  completed = by_condition condition ∙ one_more ∙ sym (ap length runs);
  stats = sym counted ∙ stats-run p (sub_run past) causes;
}
  where
    by_condition : (condition : StressCondition) → runs_ended (progress_of now d (d.sub_runs.ended + 1) condition)
        ≡ d.sub_runs.ended + 1
    by_condition (conditions.Count count) = refl
    by_condition (conditions.Duration ns) = refl

    one_more : d.sub_runs.ended + 1 ≡ length (sub_run past ∷ old)
    one_more = omega (arith, ended)

says_sub_runs : (p : Settings) (past : List Happening) (old : List (List Happening)) (s : RunStats)
    (condition : StressCondition) → ended_runs past ≡ sub_run past ∷ old → stats p (sub_run past) ≡ s
    → All AreCausesTold (sub_run past ∷ old) → All (IsUncancelled p) old
    → SaysSubRuns p past (stress_stats condition (with_sub_run s (sub_runs_in p old)) (summary s))
says_sub_runs p past old s condition runs counted causes uncancelled = record {
  completed = one_longer (length old) ∙ sym (ap length runs);
  passed = passed_one (summary s) (length old) (count_by (λ run. is_failed (summary_of p run)) old)
      (count_by (λ run. is_passed (summary_of p run)) old) (list_any (λ run. is_cancelled (summary_of p run)) old)
      (list_any_none (λ run. is_cancelled (summary_of p run)) old uncancelled) (split_up p old uncancelled)
      ∙ with_last is_passed;
  failed = if_cond (is_failed (summary s)) (count_by (λ run. is_failed (summary_of p run)) old) ∙ with_last is_failed;
  last = sym (ap summary counted) ∙ summary-run p (sub_run past) (All-head AreCausesTold (sub_run past) old causes);
}
  where
    one_longer : (n : ℕ) → n + 1 ≡ suc n
    one_longer n = omega arith

    with_last : (f : FinalRunStats → Bool) → cond (f (summary s)) 1 0 + count_by (λ run. f (summary_of p run)) old
        ≡ count_by (λ run. f (summary_told p (told run))) (ended_runs past)
    with_last f =
        ap (λ s. cond (f (summary s)) 1 0 + count_by (λ run. f (summary_of p run)) old) (sym counted)
        ∙ sym (sum_by-cons (λ run. cond (f (summary_of p run)) 1 0) (sub_run past) old)
        ∙ count_told p f (sub_run past ∷ old) causes
        ∙ ap (count_by (λ run. f (summary_told p (told run)))) (sym runs)

-- what a deed tells of ends, in a history that ends with it
abbrev EndsSo : Settings → List Happening → Deed → Type 0
EndsSo p past d =
    (list_any (λ e. is_some (sub_run_end e)) (deed_events d) ≡ (is_some p.stress && d.ends))
    × (list_any (λ e. is_some (stress_end e)) (deed_events d) ≡ (is_some p.stress && d.over))
    × All (SaysItsEnds p past) (deed_events d)

ends_so : (p : Settings) (past : List Happening) (now : ℕ) (d : DispatcherView)
    → ((condition : StressCondition) → SaysItsEnds p past (sub_run_finished now d condition))
    → ((condition : StressCondition) → SaysItsEnds p past (run_finished now d (stress_finale d condition)))
    → (o : Option StressCondition) → p.stress ≡ o → EndsSo p past (ends_as now d o)
ends_so p past now d own last None is = (
  sym (ap (λ o. is_some o && true) is),
  sym (ap (λ o. is_some o && true) is),
  All-cons (SaysItsEnds p past) _ [] (tt, tt) (All-nil (SaysItsEnds p past)),
)
ends_so p past now d own last (Some condition) is = by_stop (stops_with now d condition)
  where
    by_stop : (b : Bool) → EndsSo p past (record nothing_done {
      told = Some (sub_run_finished now d condition);
      after = if b then Some (run_finished now d (stress_finale d condition)) else None;
      ends = true;
      over = b;
    })
    by_stop true = (
      sym (ap (λ o. is_some o && true) is),
      sym (ap (λ o. is_some o && true) is),
      All-cons (SaysItsEnds p past) (sub_run_finished now d condition)
          (run_finished now d (stress_finale d condition) ∷ []) (own condition)
          (All-cons (SaysItsEnds p past) (run_finished now d (stress_finale d condition)) [] (last condition)
          (All-nil (SaysItsEnds p past))),
    )
    by_stop false = (
      sym (ap (λ o. is_some o && true) is),
      sym (ap (λ o. is_some o && false) is),
      All-cons (SaysItsEnds p past) (sub_run_finished now d condition) [] (own condition)
          (All-nil (SaysItsEnds p past)),
    )

-- a turn that ends no sub-run tells none
record SilentEnd (p : Settings) (past : List Happening) (o : Option ReporterEvent) : Type 0 where
  sub_run : list_any (λ e. is_some (sub_run_end e)) (option_to_list o) ≡ false
  stress : list_any (λ e. is_some (stress_end e)) (option_to_list o) ≡ false
  each : All (SaysItsEnds p past) (option_to_list o)

silent_end : (p : Settings) (past : List Happening) (o : Option ReporterEvent) → TellsNoEnd o → SilentEnd p past o
silent_end p past None h = record { sub_run = refl; stress = refl; each = All-nil (SaysItsEnds p past) }
silent_end p past (Some e) h = record {
  sub_run = rw h.0 refl;
  stress = rw h.1 refl;
  each = All-cons (SaysItsEnds p past) e [] (rw (h.0, h.1) (tt, tt)) (All-nil (SaysItsEnds p past));
}

and_false : (a b : Bool) → b ≡ false → false ≡ (a && b)
and_false true b is = sym is
and_false false b is = refl

tells_ends : (p : Settings) (e : Entry) (before : List Entry) → IsLegalBackward p (e ∷ before)
    → TellsItsEnds p (history p before) (happening p (history p before) e)
tells_ends p e before legal = by_end x.ends refl
  where
    past : List Happening
    past = history p before

    x : Happening
    x = happening p past e

    h : HoldsAfter p past
    h = holds p before legal.2

    not_over : (b : Bool) → x.over ≡ b → x.ends ≡ false → x.over ≡ false
    not_over false over ends = over
    not_over true over ends =
        let never : true ≡ false = sym ((does_after p past e h legal.0).marks.finishes over) ∙ ends in cc

    silent : x.ends ≡ false → SilentEnd p (x ∷ past) x.told → SilentEnd p (x ∷ past) x.after
        → TellsItsEnds p past x
    silent none own later = record {
      ends = together _ (option_to_list x.told) (option_to_list x.after) own.sub_run later.sub_run
          ∙ and_false (is_some p.stress) x.ends none;
      over = together _ (option_to_list x.told) (option_to_list x.after) own.stress later.stress
          ∙ and_false (is_some p.stress) x.over (not_over x.over refl none);
      each = All-append (SaysItsEnds p (x ∷ past)) (option_to_list x.told) (option_to_list x.after) own.each later.each;
    }

    ended : EndsRun p past e → EndsSo p (x ∷ past) (deed_on p (board p past) e.turn)
    ended end =
        subst (EndsSo p (x ∷ past)) (sym end.same)
        (ends_so p (x ∷ past) (clock past) d
        (λ condition. (
          says_sub_run p (x ∷ past) (ended_runs past) (clock past) _ d condition end.runs refl end.counted
              (causes_told p (e ∷ before) legal),
          tt,
        ))
        (λ condition. (
          tt,
          says_sub_runs p (x ∷ past) (ended_runs past) (stats p end.base) condition end.runs
              end.counted causes (uncancelled_all p before legal.2 (going p past e legal.0)),
        )) p.stress refl)
      where
        d : DispatcherView
        d = (board_of p (frame_of p past) (clock past) end.base).dispatcher

        causes : All AreCausesTold (sub_run (x ∷ past) ∷ ended_runs past)
        causes = subst (All AreCausesTold) end.runs (each_ended AreCausesTold p (causes_told p) (e ∷ before) legal)

    by_end : (b : Bool) → x.ends ≡ b → TellsItsEnds p past x
    by_end true is = let it = ended (ends_run p past e h legal.0 is) in record { ends = it.0; over = it.1; each = it.2 }
    by_end false is =
        silent is (silent_end p (x ∷ past) x.told (own_end p past e.turn legal.0 is))
        (silent_end p (x ∷ past) x.after (after_end p past e h legal.0 is))

pub ends_told : (p : Settings) (journal : List Entry) (e : Entry) → IsLegal p (journal ++ e ∷ [])
    → TellsItsEnds p (past_of p journal) (happening p (past_of p journal) e)
ends_told p journal e legal =
    tells_ends p e (reverse journal) (subst (IsLegalBackward p) (reverse-append journal (e ∷ [])) legal)
