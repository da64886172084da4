use Rattle.run_input.proofs.ValueLemmas.{value_of-unread}
use Rattle.run_input.proofs.value.parse.Goals as goal

pub returns-in-Err-2-clause-refused : goal.returns-in-Err-2-clause-refused
returns-in-Err-2-clause-refused c = λ _.
    value_of-unread _ (c.in-Err.ensures.err
    (λ memory. let yes = c.is_memory.ensures.1 memory in let no = c.if-is_memory.false in cc))
