use Rattle.std.proofs.Common.{◌≡◌, ◌∙◌, ◌==◌, filter, length, true, sym, ap, arith}
use Rattle.run_jobs.specs.States.{is_job_ready, ready_jobs}
use Rattle.run_jobs.specs.WavePlan.{tests_of_jobs}
use Rattle.run_jobs.proofs.AcceptLemmas.{ready_within}
use Rattle.run_jobs.proofs.TestLemmas.{count_tests, wave_none}
use Rattle.run_jobs.proofs.jobs.Jobs.wave_plan.Goals as goal

pub returns-then-is_empty : goal.returns-then-is_empty
returns-then-is_empty c =
    let batch = c.args.self.now in
    let s = c.args.states.now in
    let level = c.at_level.result.now in
    let ks = ready_jobs batch.jobs s c.args.wave in
    let is : c.in_ok-tests.tests ≡ tests_of_jobs batch.jobs ks =
    c.in_ok-tests.ensures
    ∙ ap (λ js. tests_of_jobs js (filter (is_job_ready js s) level)) c.list.ensures.jobs
    ∙ ap (λ ls. tests_of_jobs batch.jobs (filter (is_job_ready batch.jobs s) ls)) c.at_level.ensures in
    let none : (length c.in_ok-tests.tests == 0) ≡ true = sym c.is_empty.ensures ∙ c.if-is_empty.true in
    let zero : length c.in_ok-tests.tests ≡ 0 = grind (arith, none) in
    sym (wave_none batch ks
    (sym (count_tests batch.jobs ks (ready_within batch.jobs s c.args.wave)) ∙ ap length (sym is) ∙ zero))
