use Rattle.run_turn_reader.proofs.NameLemmas.{is_code, of_same}
use Rattle.run_turn_reader.proofs.by_name.code.Goals as goal

pub returns : goal.returns
returns c = of_same _ _ _ c.exit_with.ensures (is_code c.args.unit c.in_ok-code.code _ c.in_ok-code.ensures.1)
