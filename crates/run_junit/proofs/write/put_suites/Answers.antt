use Rattle.std.proofs.Common.{◌∙◌, refl}
use Rattle.run_junit.specs.Put.{suite_bytes}
use Rattle.run_junit.proofs.PutLemmas.{puts_item, puts_none}
use Rattle.run_junit.proofs.write.put_suites.Goals as goal

pub loop-suite-init : goal.loop-suite-init
loop-suite-init g c = record {
  puts = puts_none (g.K.Sink.taken c.args.sink.now) _;
  faults = refl;
}

pub loop-suite-preserved : goal.loop-suite-preserved
loop-suite-preserved g c = record {
  puts = puts_item suite_bytes c.args.suites.now c.loop-suite.suite-index c.suite-item.result _ _ _ _ _ _
      c.loop-suite-test.true c.suite-item.is c.loop-suite.invariant.puts c.in-Ok.ensures.puts;
  faults = c.in-Ok.ensures.fault ∙ c.loop-suite.invariant.faults;
}
