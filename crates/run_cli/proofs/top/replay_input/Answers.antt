use Rattle.std.proofs.Common.{[], subst, Ok}
use Rattle.run_engine.specs.Builder.{IsBuilt}
use Rattle.run_cli.specs.Call.{writing_of}
use Rattle.run_cli.specs.Plans.{builder_of}
use Rattle.run_cli.specs.Commands.{form_of}
use Rattle.run_cli.specs.Finish.{EndsAtFault, IsReplayEnding}
use Rattle.run_cli.proofs.GivenLemmas.{accepted_ends, refused_plan}
use Rattle.run_cli.proofs.top.replay_input.Goals as goal

pub returns-in-Ok : goal.returns-in-Ok
returns-in-Ok g c =
    let input = c.args.input in
    let w = writing_of g.K.Sink c.args.sink c.replay.result.sink in
    let built : IsBuilt (builder_of input.keys) input.plan (Ok c.in-Ok.runner) = c.in-Ok.ensures in
    accepted_ends c.args.command input.keys input.plan input.turns w c.replay.result.ending built.0
    (subst (λ p. IsReplayEnding (form_of c.args.command p) p input.turns w c.replay.result.ending) built.1
    (subst (λ ts. IsReplayEnding (form_of c.args.command c.in-Ok.runner)
    c.in-Ok.runner ts w c.replay.result.ending) c.as_slice.ensures c.replay.ensures))

pub returns : goal.returns
returns g c =
    let input = c.args.input in
    let end = c.end_at_fault in
    let w = writing_of g.K.Sink c.args.sink end.result.sink in
    refused_plan c.args.command input.keys input.plan input.turns w c.in-Err.error end.result.ending c.in-Err.ensures
    (subst (λ fault. EndsAtFault w [] fault end.result.ending) c.fault_of_plan.ensures end.ensures)
