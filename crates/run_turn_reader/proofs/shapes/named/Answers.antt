use Rattle.run_turn_reader.proofs.ShapeLemmas.{is_deliver, is_admit, is_answer, is_tick, is_begin, is_end}
use Rattle.run_turn_reader.proofs.shapes.named.Goals as goal

pub returns-then-are : goal.returns-then-are
returns-then-are c = is_deliver _ (c.are.ensures c.if-are.true)

pub returns-then-are-2 : goal.returns-then-are-2
returns-then-are-2 c = is_admit _ (c.are-else-are.ensures c.if-are-2.true)

pub returns-then-are-3 : goal.returns-then-are-3
returns-then-are-3 c = is_answer _ (c.are-else-are-2.ensures c.if-are-3.true)

pub returns-then-are-4 : goal.returns-then-are-4
returns-then-are-4 c = is_tick _ (c.are-else-are-3.ensures c.if-are-4.true)

pub returns-then-are-5 : goal.returns-then-are-5
returns-then-are-5 c = is_begin _ (c.are-else-are-4.ensures c.if-are-5.true)

pub returns-then-are-6 : goal.returns-then-are-6
returns-then-are-6 c = is_end _ (c.are-else-are-5.ensures c.if-are-6.true)
