use Rattle.run_laws_calls.proofs.ReasonLemmas.{placed, rise}
use Rattle.run_laws_calls.proofs.laws.reasons_rise.Goals as goal

pub returns : goal.returns
returns c = record { places = placed; turns = rise }
