use Rattle.std.proofs.Common.{reverse}
use Rattle.run_laws_rounds.proofs.rounds.UnitTurns.{turns_own}
use Rattle.run_laws_rounds.proofs.laws.unit_turns_are_own.Goals as goal

pub returns : goal.returns
returns c = λ p journal legal k. turns_own p (reverse journal) legal k
