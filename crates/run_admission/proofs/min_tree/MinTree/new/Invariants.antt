use Rattle.run_admission.proofs.TreeLemmas.{IsBuilt}
use Rattle.run_admission.proofs.min_tree.MinTree.new.Given as goal

abbrev pub invariant-loop-place : goal.invariant-loop-place
invariant-loop-place l = IsBuilt l.place l.many l.nodes.items l.values

abbrev pub decreases-loop-place : goal.decreases-loop-place
decreases-loop-place l = l.place
