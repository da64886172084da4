use Rattle.std.proofs.Common.{[]}
use Rattle.run_cli.proofs.GivenLemmas.{given_few}
use Rattle.run_cli.specs.Call.{call_of, reading_of, writing_of}
use Rattle.run_cli.proofs.LiveLemmas.{fault_says, plan_says}
use Rattle.run_cli.proofs.top.live_to_end.Goals as goal

pub live_plan-requires-after_bounds : goal.live_plan-requires-after_bounds
live_plan-requires-after_bounds g c κs within =
    (given_few _ c.in-Ok.said.0 c.in-Ok.said.1 [] c.in-Ok.ensures.given).0

pub returns-in-Ok-clause-says : goal.returns-in-Ok-clause-says
returns-in-Ok-clause-says g c = λ words word.
    let end = c.live_plan.result in
    plan_says g.H.Worker.Spawner.has_said _ c.in-Ok.said.0 c.in-Ok.said.1 end.live end.ending word
    c.in-Ok.ensures.given
    c.live_plan.ensures.says

pub returns-in-Err-clause-says : goal.returns-in-Err-clause-says
returns-in-Err-clause-says g c = λ words word.
    let end = c.end_without_run in
    let reading = reading_of g.S.Source c.args.source.now c.read_plan.new.source in
    fault_says g.H.Worker.Spawner.has_said
    (call_of words reading (writing_of g.K.Sink c.args.sink end.result.sink)) c.in-Err.fault end.result.live
    end.result.ending c.in-Err.ensures.refused c.in-Err.ensures.counted end.ensures.ending end.ensures.live
