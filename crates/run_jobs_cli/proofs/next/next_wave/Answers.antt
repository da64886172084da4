use Rattle.std.proofs.Common.{subst, sym}
use Rattle.run_cli.specs.Call.{reading_of, writing_of}
use Rattle.run_jobs_cli.specs.JobsGiven.{AreGoodJobs, GivesLines}
use Rattle.run_jobs_cli.proofs.NextCauseLemmas.{early_causes, next_causes}
use Rattle.run_jobs_cli.proofs.next.next_wave.Goals as goal

pub returns-in-Ok-clause-causes : goal.returns-in-Ok-clause-causes
returns-in-Ok-clause-causes g c =
    let r = reading_of g.S.Source c.args.source.now c.given_jobs.new.source in
    next_causes r (writing_of g.K.Sink c.args.sink c.end_at_next.result.sink) c.in-Ok.jobs c.as_slice.result.now
    c.end_at_next.result.status c.find_next-next.result
    (subst (λ lists. GivesLines r (λ lines. AreGoodJobs lines c.in-Ok.jobs lists)) (sym c.as_slice.ensures)
    c.in-Ok.ensures.ok)
    c.find_next-next.ensures c.end_at_next.ensures

pub returns-in-Err-clause-causes : goal.returns-in-Err-clause-causes
returns-in-Err-clause-causes g c =
    early_causes (reading_of g.S.Source c.args.source.now c.given_jobs.new.source)
    (writing_of g.K.Sink c.args.sink c.end_at.result.sink) c.in-Err.fault c.end_at.result.status
    c.in-Err.ensures.refused c.end_at.ensures
