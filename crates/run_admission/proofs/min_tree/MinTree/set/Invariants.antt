use Rattle.std.proofs.Common.{set}
use Rattle.run_admission.proofs.TreeLemmas.{IsMended}
use Rattle.run_admission.proofs.min_tree.MinTree.set.Given as goal

abbrev pub invariant-loop-node : goal.invariant-loop-node
invariant-loop-node l = IsMended l.node l.self-inside.many l.self-inside.nodes.items (set l.fn.self l.place l.value)

abbrev pub decreases-loop-node : goal.decreases-loop-node
decreases-loop-node l = l.node
