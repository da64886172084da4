use Rattle.run_laws.proofs.board.Ready.{timely, clock_moves}
use Rattle.run_laws.proofs.laws.turns_are_timely.Goals as goal

pub returns : goal.returns
returns c = record { timely = timely; clock = clock_moves }
