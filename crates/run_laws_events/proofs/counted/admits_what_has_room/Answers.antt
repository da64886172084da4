use Rattle.std.proofs.Common.{reverse}
use Rattle.run_laws_events.proofs.AdmitLemmas.{admits_room}
use Rattle.run_laws_events.proofs.counted.admits_what_has_room.Goals as goal

pub returns : goal.returns
returns c = λ p journal legal. admits_room p (reverse journal) legal
