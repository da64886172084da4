use Rattle.run_store_io.proofs.RecordedLemmas.{recorded_read}
use Rattle.run_store_io.proofs.laws.recorded_stores_are_read.Goals as goal

pub returns : goal.returns
returns c = recorded_read
