use Rattle.std.proofs.Common.{Err, subst}
use Rattle.run_engine.specs.Builder.{IsBuilt}
use Rattle.run_cli.specs.Call.{writing_of}
use Rattle.run_cli.specs.Lived.{IsFaultEnd}
use Rattle.run_cli.specs.Plans.{builder_of}
use Rattle.run_cli.proofs.LiveLemmas.{refused_end, run_begun}
use Rattle.run_cli.proofs.top.live_plan.Goals as goal

pub returns-in-Ok-clause-unused : goal.returns-in-Ok-clause-unused
returns-in-Ok-clause-unused g c = λ unbegun.
    absurd (run_begun g.H.Worker.Spawner.has_said _ _ _ c.run_live.result.ending c.run_live.ensures unbegun)

pub returns-in-Err-clause-says : goal.returns-in-Err-clause-says
returns-in-Err-clause-says g c =
    let end = c.end_without_run in
    let w = writing_of g.K.Sink c.args.sink end.result.sink in
    refused_end g.H.Worker.Spawner.has_said c.args.said.0 c.args.said.1 w end.result.live end.result.ending
    c.in-Err.error
    (subst (λ plan. IsBuilt (builder_of c.args.said.0) plan (Err c.in-Err.error)) c.unheard.ensures c.in-Err.ensures)
    (subst (λ fault. IsFaultEnd w fault end.result.ending) c.fault_of_plan.ensures end.ensures.ending)
    end.ensures.live
