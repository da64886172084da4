use Rattle.run_commands.proofs.WordLemmas.{one_reading}
use Rattle.run_commands.proofs.laws.a_text_has_one_reading.Goals as goal

pub returns : goal.returns
returns c = one_reading
