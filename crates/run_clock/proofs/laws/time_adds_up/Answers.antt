use Rattle.run_clock.proofs.CountedLemmas.{time_adds_up}
use Rattle.run_clock.proofs.laws.time_adds_up.Goals as goal

pub returns : goal.returns
returns c = time_adds_up
