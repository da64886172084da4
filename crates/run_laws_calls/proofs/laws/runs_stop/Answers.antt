use Rattle.run_laws_calls.proofs.StressStopLemmas.{runs_stop}
use Rattle.run_laws_calls.proofs.laws.runs_stop.Goals as goal

pub returns : goal.returns
returns c = runs_stop
