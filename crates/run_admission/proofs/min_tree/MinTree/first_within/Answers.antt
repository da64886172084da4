use Rattle.std.proofs.Common.{◌-◌, ◌*◌, arith}
use Rattle.std.proofs.lemmas.List.{get_or_read}
use Rattle.run_admission.proofs.DescentLemmas.{climb_first, climb_found, climb_low, climb_last, climb_high, climb_half}
use Rattle.run_admission.proofs.DescentLemmas.{climb_none, climb_reached, reach_first, reach_second, reach_last}
use Rattle.run_admission.proofs.min_tree.MinTree.first_within.Goals as goal

pub loop-low-init : goal.loop-low-init
loop-low-init c = climb_first c.self.inside.many c.self.inside.nodes.items c.args.limit c.self.invariant

pub loop-low-preserved-then-index-limit : goal.loop-low-preserved-then-index-limit
loop-low-preserved-then-index-limit c =
    let t = c.self.inside in
    let l = c.loop-low in
    climb_found t.many t.nodes.items c.args.limit l.low l.high l.node c.self.invariant l.invariant c.loop-low-test.true
    (omega (
      arith,
      get_or_read t.nodes.items l.low c.index.result.now (omega (arith, l.invariant.inside)) c.index.ensures 0,
    ))

pub loop-low-preserved-else-index-limit : goal.loop-low-preserved-else-index-limit
loop-low-preserved-else-index-limit c =
    let t = c.self.inside in
    let l = c.loop-low in
    climb_low t.many t.nodes.items c.args.limit l.low l.high l.node c.self.invariant l.invariant c.loop-low-test.true
    (omega (
      arith,
      get_or_read t.nodes.items l.low c.index.result.now (omega (arith, l.invariant.inside)) c.index.ensures 0,
    ))

pub loop-low-preserved-then-index-limit-2 : goal.loop-low-preserved-then-index-limit-2
loop-low-preserved-then-index-limit-2 c =
    let t = c.self.inside in
    let l = c.loop-low in
    climb_last t.many t.nodes.items c.args.limit l.low l.high l.node c.self.invariant l.invariant c.loop-low-test.true
    (omega (
      arith,
      get_or_read t.nodes.items (l.high - 1) c.index-then-high-eq1.result.now (omega (arith, l.invariant.inside))
          c.index-then-high-eq1.ensures 0,
    ))

pub loop-low-preserved-else-index-limit-2 : goal.loop-low-preserved-else-index-limit-2
loop-low-preserved-else-index-limit-2 c =
    let t = c.self.inside in
    let l = c.loop-low in
    climb_high t.many t.nodes.items c.args.limit l.low l.high l.node c.self.invariant l.invariant c.loop-low-test.true
    (omega (
      arith,
      get_or_read t.nodes.items (l.high - 1) c.index-then-high-eq1.result.now (omega (arith, l.invariant.inside))
          c.index-then-high-eq1.ensures 0,
    ))

pub loop-low-preserved : goal.loop-low-preserved
loop-low-preserved c =
    let t = c.self.inside in
    let l = c.loop-low in
    climb_half t.many t.nodes.items c.args.limit l.low l.high l.node c.self.invariant l.invariant c.loop-low-test.true
    (omega arith) (omega arith)

pub returns-then-node-eq0 : goal.returns-then-node-eq0
returns-then-node-eq0 c =
    let t = c.self.inside in
    let l = c.loop-low in
    climb_none t.many t.nodes.items c.args.limit l.low l.high l.node l.invariant (omega arith) _ c.self.invariant
    c.self.view_is c.if-node-eq0.true

pub loop-node-init : goal.loop-node-init
loop-node-init c =
    let t = c.self.inside in
    let l = c.loop-low in
    climb_reached t.many t.nodes.items c.args.limit l.low l.high l.node l.invariant (omega arith) c.if-node-eq0.false

pub loop-node-preserved-then-index-limit-3 : goal.loop-node-preserved-then-index-limit-3
loop-node-preserved-then-index-limit-3 c =
    let t = c.self.inside in
    let node = c.loop-node.node in
    reach_second t.many t.nodes.items c.args.limit node c.self.invariant c.loop-node.invariant c.loop-node-test.true
    (omega (
      arith,
      get_or_read t.nodes.items (node * 2) c.index-in-loop-node.result.now (omega (arith, c.self.invariant.two))
          c.index-in-loop-node.ensures 0,
    ))

pub loop-node-preserved : goal.loop-node-preserved
loop-node-preserved c =
    let t = c.self.inside in
    let node = c.loop-node.node in
    reach_first t.many t.nodes.items c.args.limit node c.self.invariant c.loop-node.invariant c.loop-node-test.true
    (omega (
      arith,
      get_or_read t.nodes.items (node * 2) c.index-in-loop-node.result.now (omega (arith, c.self.invariant.two))
          c.index-in-loop-node.ensures 0,
    ))

pub returns : goal.returns
returns c =
    let t = c.self.inside in
    reach_last t.many t.nodes.items c.args.limit c.loop-node.node c.self.invariant _ c.self.view_is
    c.loop-node.invariant (omega arith)
