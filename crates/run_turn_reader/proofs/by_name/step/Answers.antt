use Rattle.run_turn_reader.proofs.NameLemmas.{is_step}
use Rattle.run_turn_reader.proofs.by_name.step.Goals as goal

pub returns-then-are : goal.returns-then-are
returns-then-are c = is_step c.in_ok-ns.ns _ c.in_ok-ns.rest.now c.in_ok-ns.ensures (c.are.ensures c.if-are.true)
