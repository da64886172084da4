use Rattle.run_laws.proofs.told.Cancelled.{cancels}
use Rattle.run_laws.proofs.laws.cancels_are_caused.Goals as goal

pub returns : goal.returns
returns c = cancels
