use Rattle.std.proofs.Common.{◌∙◌, List, refl, ℕ}
use Rattle.run_junit.specs.Page.{parts_bytes}
use Rattle.run_junit.proofs.PutLemmas.{puts_item, puts_none, puts_same}
use Rattle.run_junit.proofs.write.put_cases.Goals as goal

pub loop-case-init : goal.loop-case-init
loop-case-init g c = record {
  puts = puts_none (g.K.Sink.taken c.args.sink.now) _;
  faults = refl;
}

pub loop-case-preserved : goal.loop-case-preserved
loop-case-preserved g c = record {
  puts = puts_item (λ (case : List ℕ). case) c.args.cases.now c.loop-case.case-index c.case-item.result _ _ _ _ _ _
      c.loop-case-test.true c.case-item.is c.loop-case.invariant.puts
      (puts_same (g.K.Sink.taken c.loop-case.sink) (g.K.Sink.taken c.put_parts.new.sink) _ _
      (parts_bytes c.parts.result.now) c.case-item.result c.parts.ensures c.in-Ok.ensures.puts);
  faults = c.in-Ok.ensures.fault ∙ c.loop-case.invariant.faults;
}
