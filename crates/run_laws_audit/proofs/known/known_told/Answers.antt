use Rattle.std.proofs.Common.{arith}
use Rattle.run_laws_audit.specs.Plain.{HasPlainStatus}
use Rattle.run_laws_audit.proofs.PlainLemmas.{all_gone, one_more}
use Rattle.run_laws_audit.proofs.known.known_told.Goals as goal

pub loop-event-preserved : goal.loop-event-preserved
loop-event-preserved c =
    one_more (HasPlainStatus) c.args.told.now c.loop-event.event-index c.event-item.result c.loop-event-test.true
    c.event-item.is c.loop-event.invariant
    c.known_event.ensures

pub returns : goal.returns
returns c = all_gone (HasPlainStatus) c.args.told.now c.loop-event.event-index (omega arith) c.loop-event.invariant
