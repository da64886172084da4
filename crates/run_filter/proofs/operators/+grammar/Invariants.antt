use Rattle.std.proofs.Common.{◌≡◌, ◌≤◌, ◌+◌, ◌-◌, ◌*◌, length}
use Rattle.run_filter.specs.Tree.{tree_of}
use Rattle.run_filter.specs.Grammar.{operand, and_chain, or_chain}
use Rattle.run_filter.specs.Reads.{left_at}
use Rattle.run_filter.proofs.operators.+grammar.Given as goal

abbrev pub decreases-operand : goal.decreases-operand
decreases-operand l = l.room * 8

abbrev pub decreases-and_step : goal.decreases-and_step
decreases-and_step l = l.room * 8 + 1

abbrev pub decreases-and_chain : goal.decreases-and_chain
decreases-and_chain l = l.room * 8 + 2

abbrev pub decreases-term : goal.decreases-term
decreases-term l = l.room * 8 + 3

abbrev pub decreases-or_step : goal.decreases-or_step
decreases-or_step l = l.room * 8 + 4

abbrev pub decreases-or_chain : goal.decreases-or_chain
decreases-or_chain l = l.room * 8 + 5

abbrev pub decreases-filter : goal.decreases-filter
decreases-filter l = l.room * 8 + 6

abbrev pub decreases-unsigned : goal.decreases-unsigned
decreases-unsigned l = l.room * 8 + 7

abbrev pub invariant-and_chain-loop-fuel : goal.invariant-and_chain-loop-fuel
invariant-and_chain-loop-fuel l = record {
  read : and_chain (operand l.room) (length l.text - l.fn.next) (tree_of l.fn.start) (left_at l.text l.fn.next)
      ≡ and_chain (operand l.room) l.fuel (tree_of l.first) (left_at l.text l.after);
  end : l.after ≤ length l.text;
}

abbrev pub decreases-and_chain-loop-fuel : goal.decreases-and_chain-loop-fuel
decreases-and_chain-loop-fuel l = l.fuel

abbrev pub invariant-or_chain-loop-fuel : goal.invariant-or_chain-loop-fuel
invariant-or_chain-loop-fuel l = record {
  read : or_chain (operand l.room) (length l.text - l.fn.next) (tree_of l.fn.start) (left_at l.text l.fn.next)
      ≡ or_chain (operand l.room) l.fuel (tree_of l.first) (left_at l.text l.after);
  end : l.after ≤ length l.text;
}

abbrev pub decreases-or_chain-loop-fuel : goal.decreases-or_chain-loop-fuel
decreases-or_chain-loop-fuel l = l.fuel
