use Rattle.std.proofs.Common.{reverse}
use Rattle.run_laws.proofs.board.Boards.{board-steps}
use Rattle.run_laws.proofs.laws.boards_step.Goals as goal

pub returns : goal.returns
returns c = λ p journal e legal en. board-steps p (reverse journal) e legal en
