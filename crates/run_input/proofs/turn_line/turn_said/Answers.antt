use Rattle.run_input.proofs.SaidLemmas.{reads_line}
use Rattle.run_input.specs.TurnLine.{turn_of}
use Rattle.serde_json.specs.View.{view}
use Rattle.run_input.proofs.turn_line.turn_said.Goals as goal

-- src/turn_line.rt:60:1
pub returns : goal.returns
returns c = reads_line c.args.line.now (view c.in_ok-value.value) turn_of c.turn_from-turn.result c.unless_float.result
    c.in_ok-value.ensures.ok.0 c.in_ok-value.ensures.ok.1 c.turn_from-turn.ensures
    c.unless_float.ensures.plain c.unless_float.ensures.float
