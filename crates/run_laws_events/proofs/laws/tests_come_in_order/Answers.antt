use Rattle.run_laws_events.proofs.TestOrder.{tests_in_order}
use Rattle.run_laws_events.proofs.laws.tests_come_in_order.Goals as goal

pub returns : goal.returns
returns c = tests_in_order
