use Rattle.std.proofs.Common.{◌≡◌, ◌∙◌, ◌<◌, ◌+◌, ◌==◌, [], ◌∷◌, ◌++◌, cond, length, take, get_or, sym, ap}
use Rattle.std.proofs.Common.{arith}
use Rattle.std.proofs.lemmas.List.{take_more, length-take-le}
use Rattle.run_jobs.specs.Levels.{at_level}
use Rattle.run_jobs.proofs.LevelLemmas.{added_or_not, at_level_more}
use Rattle.run_jobs.proofs.levels.waves_of.Goals as goal

pub loop-job-preserved : goal.loop-job-preserved
loop-job-preserved c = λ w.
    let levels = c.args.levels.now in
    let i = c.loop-job.job in
    let level = get_or levels i 0 in
    let inside : i < length levels = omega arith in
    let here : i ≡ 0 + length (take i levels) = omega (arith, length-take-le i levels) in
    let before = at_level w 0 (take i levels) in
    c.in_ok-add_to.ensures w
    ∙ ap (λ ks. cond (level == w) (ks ++ i ∷ []) ks) (c.loop-job.invariant w)
    ∙ added_or_not (level == w) before i
    ∙ ap (λ n. before ++ cond (level == w) (n ∷ []) []) here
    ∙ sym (at_level_more w 0 (take i levels) level)
    ∙ ap (at_level w 0) (sym (take_more levels i 0 inside))
