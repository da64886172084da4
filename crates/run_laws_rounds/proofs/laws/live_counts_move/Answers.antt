use Rattle.run_laws_rounds.proofs.rounds.CountMoves.{counts_move}
use Rattle.run_laws_rounds.proofs.laws.live_counts_move.Goals as goal

pub returns : goal.returns
returns c = counts_move
