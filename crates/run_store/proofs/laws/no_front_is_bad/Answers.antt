use Rattle.run_store.proofs.WayLemmas.{no_front}
use Rattle.run_store.proofs.laws.no_front_is_bad.Goals as goal

pub returns : goal.returns
returns c = no_front
