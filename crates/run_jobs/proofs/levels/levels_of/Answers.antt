use Rattle.std.proofs.Common.{◌≡◌, ◌∙◌, ◌<◌, ◌≤◌, ◌^◌, [], ◌∷◌, ◌++◌, length, sym, ap, subst}
use Rattle.std.proofs.Common.{arith, add-one}
use Rattle.std.specs.List.{All}
use Rattle.std.specs.Option.{option_map_or}
use Rattle.std.proofs.lemmas.List.Elements.{All-same}
use Rattle.std.proofs.lemmas.Option.{slice_get-get_or}
use Rattle.run_jobs.specs.declared.job.Job.{Job}
use Rattle.run_jobs.specs.Jobs.{after_of}
use Rattle.run_jobs.specs.Levels.{AreLow, first_levels, level_after}
use Rattle.run_jobs.proofs.LevelLemmas.{length-levels, small_more}
use Rattle.run_jobs.proofs.levels.levels_of.Goals as goal

pub level_after-level-requires-clause-below : goal.level_after-level-requires-clause-below
level_after-level-requires-clause-below c =
    let jobs = c.args.jobs.now in
    let i = c.loop-job.job-index in
    let job = c.job-item.result in
    let inside : i < length jobs = c.loop-job-test.true in
    let count : length c.as_slice.result.now ≡ i =
    ap length (c.as_slice.ensures.value ∙ c.loop-job.invariant.levels) ∙ length-levels jobs i in
    let after : c.as_slice-in-loop-job.result.now ≡ after_of jobs i =
    c.as_slice-in-loop-job.ensures
    ∙ ap (λ (j : Job). j.after) c.job-item.is
    ∙ sym (ap (λ o. option_map_or (λ (j : Job). j.after) o []) (slice_get-get_or jobs i job inside)) in
    subst (λ n. All (λ a. a < n) c.as_slice-in-loop-job.result.now) (sym count)
    (All-same (λ a. a < i) c.as_slice-in-loop-job.result.now (after_of jobs i) after (c.requires.ordered i))

pub level_after-level-requires-clause-few : goal.level_after-level-requires-clause-few
level_after-level-requires-clause-few c =
    let jobs = c.args.jobs.now in
    let i = c.loop-job.job-index in
    let inside : i < length jobs = c.loop-job-test.true in
    let count : length c.as_slice.result.now ≡ i =
    ap length (c.as_slice.ensures.value ∙ c.loop-job.invariant.levels) ∙ length-levels jobs i in
    let few : length jobs < 2 ^ 32 = c.requires.few in
    omega arith

pub loop-job-preserved : goal.loop-job-preserved
loop-job-preserved c =
    let jobs = c.args.jobs.now in
    let i = c.loop-job.job-index in
    let job = c.job-item.result in
    let level = c.level_after-level.result in
    let levels = c.loop-job.levels.items in
    let inside : i < length jobs = c.loop-job-test.true in
    let seen : c.as_slice.result.now ≡ levels = c.as_slice.ensures.value in
    let after : c.as_slice-in-loop-job.result.now ≡ after_of jobs i =
    c.as_slice-in-loop-job.ensures
    ∙ ap (λ (j : Job). j.after) c.job-item.is
    ∙ sym (ap (λ o. option_map_or (λ (j : Job). j.after) o []) (slice_get-get_or jobs i job inside)) in
    let is : level ≡ level_after (first_levels jobs i) (after_of jobs i) =
    c.level_after-level.ensures.level
    ∙ ap (λ ls. level_after ls c.as_slice-in-loop-job.result.now) (seen ∙ c.loop-job.invariant.levels)
    ∙ ap (level_after (first_levels jobs i)) after in
    record {
      levels =
          c.in_ok-push.ensures.items
          ∙ ap (λ l. levels ++ l ∷ []) is
          ∙ ap (λ ls. ls ++ level_after (first_levels jobs i) (after_of jobs i) ∷ []) c.loop-job.invariant.levels
          ∙ ap (first_levels jobs) (sym (add-one i));
      small =
          subst AreLow (sym c.in_ok-push.ensures.items)
          (small_more levels level c.loop-job.invariant.small
          (subst (λ ls. level ≤ length ls) seen c.level_after-level.ensures.small));
    }
