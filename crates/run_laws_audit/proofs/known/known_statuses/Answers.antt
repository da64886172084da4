use Rattle.std.proofs.Common.{arith}
use Rattle.run_output.specs.Statuses.{status_data}
use Rattle.run_text_laws.specs.Plain.{IsPlain}
use Rattle.run_laws_audit.proofs.PlainLemmas.{all_gone, one_more}
use Rattle.run_laws_audit.proofs.known.known_statuses.Goals as goal

pub loop-status-preserved : goal.loop-status-preserved
loop-status-preserved c =
    one_more (λ status. IsPlain (status_data status)) c.args.statuses.now c.loop-status.status-index
    c.status-item.result c.loop-status-test.true c.status-item.is c.loop-status.invariant
    c.known_status.ensures

pub returns : goal.returns
returns c = all_gone (λ status. IsPlain (status_data status)) c.args.statuses.now c.loop-status.status-index (omega
    arith) c.loop-status.invariant
