use Rattle.std.proofs.Common.{◌∙◌, ◌<◌, ◌++◌, [], ◌∷◌, filter, length, get_or, sym, ap}
use Rattle.run_jobs.specs.States.{is_job_ready}
use Rattle.run_jobs.specs.WavePlan.{tests_of_jobs}
use Rattle.run_jobs.proofs.TestLemmas.{tests_more}
use Rattle.run_jobs.proofs.wave_plan.ready_tests.Goals as goal

pub loop-number-preserved : goal.loop-number-preserved
loop-number-preserved c =
    let jobs = c.args.jobs.now in
    let level = c.args.level.now in
    let i = c.loop-number.number-index in
    let new = tests_of_jobs jobs (filter (is_job_ready jobs c.args.states.now) (get_or level i 0 ∷ [])) in
    let within : i < length level = c.loop-number-test.true in
    c.in_ok-add_some.ensures
    ∙ ap (λ ts. c.loop-number.tests ++ ts) c.in_ok-test.ensures
    ∙ ap (λ ts. ts ++ new) c.loop-number.invariant
    ∙ sym (tests_more jobs (is_job_ready jobs c.args.states.now) level i within)
