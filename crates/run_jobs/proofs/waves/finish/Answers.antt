use Rattle.std.proofs.Common.{◌∙◌, ◌≤◌, arith}
use Rattle.run_jobs.proofs.AcceptLemmas.{sound_jobs}
use Rattle.run_jobs.proofs.FaultLemmas.{in_order}
use Rattle.run_jobs.proofs.NextLemmas.{known_all, known_some}
use Rattle.run_jobs.proofs.waves.finish.Goals as goal

pub known-requires : goal.known-requires
known-requires g c =
    let jobs = c.args.jobs.now.jobs in
    let ran = c.requires.ran in
    known_some jobs ran.0 c.settle_rest.new.states
    (in_order jobs (sound_jobs c.args.jobs.now.threads jobs c.settle_rest.ensures.sound))
    (c.settle_rest.ensures.known ran.0 ran.1 ran.2) (c.settle_rest.ensures.same ∙ c.requires.states)

pub returns-in-Ok : goal.returns-in-Ok
returns-in-Ok g c = λ waves count known.
    let jobs = c.args.jobs.now.jobs in
    let low : c.args.given ≤ c.args.due = omega arith in
    let all = known_all jobs waves c.settle_rest.new.states
    (in_order jobs (sound_jobs c.args.jobs.now.threads jobs c.settle_rest.ensures.sound))
    (c.settle_rest.ensures.known waves count known) (c.settle_rest.ensures.same ∙ c.requires.states) in
    (omega arith, c.in-Ok.ensures ∙ all)
