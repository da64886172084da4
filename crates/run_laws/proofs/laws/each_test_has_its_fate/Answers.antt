use Rattle.std.proofs.Common.{reverse}
use Rattle.run_laws.proofs.told.FateLemmas.{ended_fates, over_ended}
use Rattle.run_laws.proofs.laws.each_test_has_its_fate.Goals as goal

pub returns : goal.returns
returns c = record {
  fates = λ p journal legal. ended_fates p (reverse journal) legal;
  over = λ p journal legal over. over_ended p (reverse journal) legal over;
}
