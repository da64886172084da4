use Rattle.std.proofs.Common.{reverse}
use Rattle.run_laws_events.proofs.FewRetries.{retries_few}
use Rattle.run_laws_events.proofs.RetryOrder.{retries_ordered}
use Rattle.run_laws_events.proofs.laws.retries_are_told_in_order.Goals as goal

pub returns : goal.returns
returns c = record {
  order = λ p journal legal k. retries_ordered p (reverse journal) legal k;
  few = λ p journal legal k. retries_few p (reverse journal) legal k;
}
