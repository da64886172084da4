use Rattle.std.proofs.Common.{refl}
use Rattle.run_model.specs.Journal.{past_of}
use Rattle.run_laws.proofs.told.Outcomes.{over_is}
use Rattle.run_jobs.specs.Waves.{next_settings}
use Rattle.run_jobs.proofs.OnceLemmas.{told_by_fate}
use Rattle.run_jobs.proofs.laws.jobs_are_told_once.Goals as goal

pub returns : goal.returns
returns c = λ batch lists waves wave has unit.
    let p = next_settings batch waves in
    told_by_fate p (past_of p has.journal) unit (c.a_run_has_one_sub_run.ensures p has.journal refl has.took.legal)
    (over_is p (past_of p has.journal) wave.outcome has.ended)
    (c.each_unit_finishes_once.ensures.at_end p has.journal has.took.legal)
