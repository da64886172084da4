use Rattle.run_turn_reader.proofs.NameLemmas.{is_signal, of_same}
use Rattle.run_turn_reader.proofs.by_name.signal.Goals as goal

pub returns : goal.returns
returns c = of_same _ _ _ c.ended_by.ensures (is_signal c.args.unit c.in_ok-signal.signal _ c.in_ok-signal.ensures.1)
