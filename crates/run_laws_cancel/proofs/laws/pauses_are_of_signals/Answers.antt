use Rattle.std.proofs.Common.{reverse}
use Rattle.run_laws_cancel.proofs.AlternateLemmas.{alternate}
use Rattle.run_laws_cancel.proofs.PauseLemmas.{of_signals}
use Rattle.run_laws_cancel.proofs.laws.pauses_are_of_signals.Goals as goal

pub returns : goal.returns
returns c = record {
  signals = of_signals;
  alternate = λ p journal legal. alternate p (reverse journal) legal;
}
