use Rattle.std.proofs.Common.{reverse}
use Rattle.run_laws_events.proofs.JoinedSlots.{starts_in_slots}
use Rattle.run_laws_events.proofs.SlotRule.{slots_least}
use Rattle.run_laws_events.proofs.laws.slots_are_of_the_rule.Goals as goal

pub returns : goal.returns
returns c = record {
  least = slots_least;
  told = λ p journal legal. starts_in_slots p (reverse journal) legal;
}
