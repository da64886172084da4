use Rattle.run_filter.proofs.PartitionLemmas.{shared}
use Rattle.run_filter.proofs.laws.parts_share_tests.Goals as goal

pub returns : goal.returns
returns c = shared
