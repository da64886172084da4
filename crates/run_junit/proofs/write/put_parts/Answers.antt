use Rattle.std.proofs.Common.{◌∙◌, refl}
use Rattle.run_junit.specs.Page.{part_bytes}
use Rattle.run_junit.proofs.PutLemmas.{puts_item, puts_none}
use Rattle.run_junit.proofs.write.put_parts.Goals as goal

pub loop-part-init : goal.loop-part-init
loop-part-init g c = record {
  puts = puts_none (g.K.Sink.taken c.args.sink.now) _;
  faults = refl;
}

pub loop-part-preserved : goal.loop-part-preserved
loop-part-preserved g c = record {
  puts = puts_item part_bytes c.args.parts.now c.loop-part.part-index c.part-item.result _ _ _ _ _ _
      c.loop-part-test.true c.part-item.is c.loop-part.invariant.puts c.in-Ok.ensures.puts;
  faults = c.in-Ok.ensures.fault ∙ c.loop-part.invariant.faults;
}
