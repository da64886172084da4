use Rattle.std.proofs.Common.{reverse}
use Rattle.run_laws_cancel.proofs.EnabledLemmas.{counted}
use Rattle.run_laws_cancel.proofs.laws.the_global_timer_is_counted.Goals as goal

pub returns : goal.returns
returns c = λ p journal legal. counted p (reverse journal) legal
