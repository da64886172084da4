use Rattle.run_input.proofs.InputLemmas.{has_no_bad_line}
use Rattle.run_input.proofs.laws.an_input_has_no_bad_line.Goals as goal

pub returns : goal.returns
returns c = has_no_bad_line
