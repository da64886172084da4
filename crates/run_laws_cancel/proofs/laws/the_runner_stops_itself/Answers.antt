use Rattle.run_laws_cancel.proofs.GroupLemmas.{runner_asked}
use Rattle.run_laws_cancel.proofs.laws.the_runner_stops_itself.Goals as goal

pub returns : goal.returns
returns c = runner_asked
