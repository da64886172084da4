use Rattle.run_cli.proofs.GivenLemmas.{given_few, given_says, refused_says}
use Rattle.run_cli.proofs.top.run_to_end.Goals as goal

pub replay_input-requires-clause-units : goal.replay_input-requires-clause-units
replay_input-requires-clause-units g c =
    (given_few _ c.in-Ok.input.keys c.in-Ok.input.plan c.in-Ok.input.turns c.in-Ok.ensures.given).0

pub replay_input-requires-clause-turns : goal.replay_input-requires-clause-turns
replay_input-requires-clause-turns g c =
    (given_few _ c.in-Ok.input.keys c.in-Ok.input.plan c.in-Ok.input.turns c.in-Ok.ensures.given).1

pub returns-in-Ok-clause-says : goal.returns-in-Ok-clause-says
returns-in-Ok-clause-says g c =
    let input = c.in-Ok.input in
    given_says _ c.in-Ok.command input.keys input.plan input.turns c.replay_input.result.ending c.in-Ok.ensures.named
    c.in-Ok.ensures.given
    c.replay_input.ensures

pub returns-in-Err-clause-says : goal.returns-in-Err-clause-says
returns-in-Err-clause-says g c =
    refused_says _ c.in-Err.fault c.end_at_fault.result.ending c.in-Err.ensures.refused c.end_at_fault.ensures
