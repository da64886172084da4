use Rattle.run_laws.proofs.told.Prefix.{extends}
use Rattle.run_laws.proofs.laws.events_extend.Goals as goal

pub returns : goal.returns
returns c = λ p journal more legal. extends p journal more
