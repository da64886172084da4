use Rattle.run_store.proofs.WayLemmas.{one_way}
use Rattle.run_store.proofs.laws.stores_are_read_one_way.Goals as goal

pub returns : goal.returns
returns c = one_way
