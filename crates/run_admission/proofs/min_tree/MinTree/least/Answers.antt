use Rattle.std.proofs.Common.{length, sym, subst, arith}
use Rattle.std.proofs.lemmas.List.{get_or_read}
use Rattle.run_admission.specs.Least.{IsLeast}
use Rattle.run_admission.proofs.TreeLemmas.{root_is}
use Rattle.run_admission.proofs.min_tree.MinTree.least.Goals as goal

pub returns-else-self-eq0 : goal.returns-else-self-eq0
returns-else-self-eq0 c =
    let t = c.self.inside in
    subst (IsLeast c.args.self.now 0 (length c.args.self.now))
    (sym (get_or_read t.nodes.items 1 c.index.result.now (omega (arith, c.self.invariant.two)) c.index.ensures 0))
    (root_is t.many t.nodes.items _ c.self.invariant c.self.view_is (omega arith))
