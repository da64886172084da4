use Rattle.std.proofs.Common.{reverse}
use Rattle.run_laws_rows.proofs.DelayLemmas.{delays_whole}
use Rattle.run_laws_rows.proofs.laws.delays_are_whole.Goals as goal

pub returns : goal.returns
returns c = λ p journal legal k. delays_whole p (reverse journal) legal k
