use Rattle.std.proofs.Common.{◌≡◌, filter, take}
use Rattle.run_jobs.specs.States.{is_job_ready}
use Rattle.run_jobs.specs.WavePlan.{tests_of_jobs}
use Rattle.run_jobs.proofs.wave_plan.ready_tests.Given as goal

abbrev pub invariant-loop-number : goal.invariant-loop-number
invariant-loop-number l =
    l.tests ≡ tests_of_jobs l.jobs (filter (is_job_ready l.jobs l.states) (take l.number-index l.level))
