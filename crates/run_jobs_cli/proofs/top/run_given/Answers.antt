use Rattle.std.proofs.Common.{subst, sym}
use Rattle.run_cli.specs.Call.{reading_of, writing_of}
use Rattle.run_jobs_cli.specs.JobsCauses.{GetsStates}
use Rattle.run_jobs_cli.specs.JobsGiven.{AreGoodJobs, GivesLines}
use Rattle.run_jobs_cli.proofs.CauseLemmas.{fault_causes, run_causes, states_eleven}
use Rattle.run_jobs_cli.proofs.top.run_given.Goals as goal

pub returns-in-Ok-clause-causes : goal.returns-in-Ok-clause-causes
returns-in-Ok-clause-causes g c =
    let r = reading_of g.S.Source c.args.source.now c.given_jobs.new.source in
    run_causes r (writing_of g.K.Sink c.args.sink c.run_lists.result.sink) c.in-Ok.jobs c.as_slice.result.now
    c.run_lists.result.status
    (subst (λ lists. GivesLines r (λ lines. AreGoodJobs lines c.in-Ok.jobs lists)) (sym c.as_slice.ensures)
    c.in-Ok.ensures.ok)
    c.run_lists.ensures.says c.run_lists.ensures.comes

pub returns-in-Err-clause-causes : goal.returns-in-Err-clause-causes
returns-in-Err-clause-causes g c =
    fault_causes GetsStates (reading_of g.S.Source c.args.source.now c.given_jobs.new.source)
    (writing_of g.K.Sink c.args.sink c.end_at.result.sink) c.in-Err.fault c.end_at.result.status
    states_eleven c.in-Err.ensures.refused c.end_at.ensures
