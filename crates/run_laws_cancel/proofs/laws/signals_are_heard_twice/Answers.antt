use Rattle.std.proofs.Common.{reverse}
use Rattle.run_laws_cancel.proofs.EnabledLemmas.{heard_twice}
use Rattle.run_laws_cancel.proofs.laws.signals_are_heard_twice.Goals as goal

pub returns : goal.returns
returns c = λ p journal signal legal. heard_twice p (reverse journal) signal legal
