use Rattle.run_audit_cli.proofs.FoundLemmas.{given_few}
use Rattle.run_audit_cli.proofs.top.find_verdict.Goals as goal

pub judge_input-requires-clause-units : goal.judge_input-requires-clause-units
judge_input-requires-clause-units g c =
    given_few _ c.in-Ok.input.keys c.in-Ok.input.plan c.in-Ok.input.turns c.in-Ok.events c.in-Ok.ensures.ok
