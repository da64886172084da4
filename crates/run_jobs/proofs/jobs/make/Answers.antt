use Rattle.std.proofs.Common.{◌≡◌, ◌∙◌, ◌<◌, ◌^◌, length, sym, ap, subst}
use Rattle.run_jobs.specs.Levels.{AreOrdered}
use Rattle.run_jobs.proofs.FaultLemmas.{in_order}
use Rattle.run_jobs.proofs.LevelLemmas.{count_levels}
use Rattle.run_jobs.proofs.jobs.make.Goals as goal

pub levels_of-requires-clause-ordered : goal.levels_of-requires-clause-ordered
levels_of-requires-clause-ordered c =
    subst AreOrdered (sym c.as_slice.ensures) (in_order c.args.jobs c.requires.sound)

pub waves_of-requires : goal.waves_of-requires
waves_of-requires c =
    let count : length c.as_slice-2.result.now ≡ length c.args.jobs =
    ap length (c.as_slice-2.ensures.value ∙ c.in_ok-levels.ensures) ∙ count_levels c.as_slice.result.now
    ∙ ap length c.as_slice.ensures in
    subst (λ n. n < 2 ^ 32) (sym count) c.requires.few
