use Rattle.std.proofs.Common.{reverse}
use Rattle.run_laws_cancel.proofs.ReachLemmas.{reached}
use Rattle.run_laws_cancel.proofs.laws.requests_reach_the_live.Goals as goal

pub returns : goal.returns
returns c = λ p journal legal k. reached p (reverse journal) legal k
