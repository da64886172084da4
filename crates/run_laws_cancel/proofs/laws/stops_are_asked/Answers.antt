use Rattle.run_laws_cancel.proofs.StopRuns.{asks_stops}
use Rattle.run_laws_cancel.proofs.laws.stops_are_asked.Goals as goal

pub returns : goal.returns
returns c = asks_stops
