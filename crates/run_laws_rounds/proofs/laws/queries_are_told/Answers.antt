use Rattle.std.proofs.Common.{reverse}
use Rattle.run_laws_rounds.proofs.rounds.QueryLaws.{fits, tells_so}
use Rattle.run_laws_rounds.proofs.laws.queries_are_told.Goals as goal

pub returns : goal.returns
returns c = record { turns = tells_so; fits = λ p journal legal. fits p (reverse journal) legal }
