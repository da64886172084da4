use Rattle.std.proofs.Common.{◌-◌}
use Rattle.run_admission.proofs.DescentLemmas.{IsClimbed, IsReached}
use Rattle.run_admission.proofs.min_tree.MinTree.first_within.Given as goal

abbrev pub invariant-loop-low : goal.invariant-loop-low
invariant-loop-low l = IsClimbed l.self-inside.many l.self-inside.nodes.items l.limit l.low l.high l.node

abbrev pub decreases-loop-low : goal.decreases-loop-low
decreases-loop-low l = l.high - l.low

abbrev pub invariant-loop-node : goal.invariant-loop-node
invariant-loop-node l = IsReached l.self-inside.many l.self-inside.nodes.items l.limit l.node

abbrev pub decreases-loop-node : goal.decreases-loop-node
decreases-loop-node l = l.self-inside.many - l.node
