use Rattle.std.proofs.Common.{reverse}
use Rattle.run_laws_events.proofs.Tries.{tries_numbered}
use Rattle.run_laws_events.proofs.laws.retries_are_numbered_in_accounts.Goals as goal

pub returns : goal.returns
returns c = λ p journal legal k. tries_numbered p (reverse journal) legal k
