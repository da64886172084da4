use Rattle.std.proofs.Common.{reverse}
use Rattle.run_laws_events.proofs.IdleBoards.{idle_admits}
use Rattle.run_laws_events.proofs.counted.idle_runs_admit.Goals as goal

pub returns : goal.returns
returns c = λ p journal k legal on idle below none. idle_admits p (reverse journal) k legal on idle below none
