use Rattle.run_laws.proofs.board.Ready.{ready_after}
use Rattle.run_laws.proofs.laws.enabled_turns_can_be_taken.Goals as goal

pub returns : goal.returns
returns c = ready_after
