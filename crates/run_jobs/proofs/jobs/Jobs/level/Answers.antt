use Rattle.std.proofs.Common.{◌∙◌, ◌<◌, length, get_or, sym, ap, subst, arith}
use Rattle.run_jobs.specs.Jobs.{Batch}
use Rattle.run_jobs.specs.Levels.{job_level}
use Rattle.run_jobs.proofs.LevelLemmas.{count_levels, level_read}
use Rattle.run_jobs.proofs.jobs.Jobs.level.Goals as goal

pub index-requires : goal.index-requires
index-requires c =
    let same = ap (λ (b : Batch). b.jobs) c.self.view_is in
    let within : c.args.job < length c.self.inside.jobs = subst (λ jobs. c.args.job < length jobs) (sym same)
    c.requires in
    let inside : c.args.job < length c.self.inside.levels.items =
    subst (λ n. c.args.job < n) (sym (ap length c.self.invariant.level_of_each ∙ count_levels
    c.self.inside.jobs)) within in
    omega arith

pub returns : goal.returns
returns c =
    let same = ap (λ (b : Batch). b.jobs) c.self.view_is in
    let within : c.args.job < length c.self.inside.jobs = subst (λ jobs. c.args.job < length jobs) (sym same)
    c.requires in
    c.index.ensures
    ∙ ap (λ ls. get_or ls c.args.job c.index.result.now) c.self.invariant.level_of_each
    ∙ level_read c.self.inside.jobs c.args.job c.index.result.now within
    ∙ ap (λ jobs. job_level jobs c.args.job) same
