use Rattle.run_turn_reader.proofs.ShapeLemmas.{is_clock}
use Rattle.run_turn_reader.proofs.shapes.clock.Goals as goal

pub returns-then-are : goal.returns-then-are
returns-then-are c = is_clock c.in_ok-ns.ns _ c.in_ok-ns.rest.now c.in_ok-ns.ensures (c.are.ensures c.if-are.true)
