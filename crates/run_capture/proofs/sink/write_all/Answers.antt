use Rattle.std.proofs.Common.{arith}
use Rattle.run_capture.proofs.BytesLemmas.{takes_more}
use Rattle.run_capture.proofs.sink.write_all.Goals as goal

pub loop-at-preserved : goal.loop-at-preserved
loop-at-preserved g c = record {
  within = grind arith;
  taken = takes_more _ _ _ c.loop-at.at c.in_ok-n.n _ c.loop-at.invariant.taken c.in_ok-n.ensures.taken;
  faults = grind arith;
}
