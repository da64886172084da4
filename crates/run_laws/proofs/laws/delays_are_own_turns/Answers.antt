use Rattle.std.proofs.Common.{reverse}
use Rattle.run_laws.proofs.told.DelayLemmas.{own_delays}
use Rattle.run_laws.proofs.laws.delays_are_own_turns.Goals as goal

pub returns : goal.returns
returns c = λ p journal legal k. own_delays p (reverse journal) legal k
