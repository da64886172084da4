-- How often each job of a wave is told started and finished.
use Rattle.std.proofs.Common.{◌≡◌, ◌∙◌, ℕ, List, [], ◌∷◌, true, ◌&&◌, not, cond, sym, ap, subst}
use Rattle.std.specs.List.{All}
use Rattle.std.proofs.lemmas.List.Elements.{All-head}
use Rattle.run_events.specs.Stats.{one_if}
use Rattle.run_events.specs.declared.settings.Settings.{Settings}
use Rattle.run_model.specs.declared.happening.Happening.{Happening}
use Rattle.run_model.specs.Story.{never_started, was_left}
use Rattle.run_model.specs.Words.{ended_runs, is_over, sub_run}
use Rattle.run_laws_calls.specs.Counts.{AreToldByFate, IsToldByItsFate, finishes_told, is_to_run, skips_told}
use Rattle.run_laws_calls.specs.Counts.{starts_told}
use Rattle.run_laws_calls.specs.Whole.{IsOneRun}

-- what is told of the newest sub-run of a run with one is told of the whole run
pub told_by_fate : (p : Settings) (past : List Happening) (k : ℕ) → IsOneRun past → is_over past ≡ true
    → All (AreToldByFate p) (ended_runs past) → IsToldByItsFate p past k
told_by_fate p past k one over fates =
    let run : List Happening = sub_run past in
    let ended : ended_runs past ≡ run ∷ [] = one.ended ∙ ap (λ b. cond b (run ∷ []) []) over in
    let fate : IsToldByItsFate p run k =
    All-head (AreToldByFate p) run [] (subst (All (AreToldByFate p)) ended fates) k in
    let never = one.same.never k in
    let left = one.same.left k in
    record {
      starts = ap (starts_told k) one.same.told ∙ fate.starts
          ∙ ap (λ b. one_if (is_to_run p k && not b)) (sym never);
      finishes = ap (finishes_told k) one.same.told ∙ fate.finishes
          ∙ ap (λ b. one_if (is_to_run p k && not b && not (was_left k run))) (sym never)
          ∙ ap (λ b. one_if (is_to_run p k && not (never_started k past) && not b)) (sym left);
      skips = ap (skips_told k) one.same.told ∙ fate.skips;
    }
