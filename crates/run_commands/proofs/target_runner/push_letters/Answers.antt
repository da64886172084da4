use Rattle.run_commands.proofs.CharLemmas.{letters_more}
use Rattle.run_commands.proofs.target_runner.push_letters.Goals as goal

pub loop-letter-preserved : goal.loop-letter-preserved
loop-letter-preserved c =
    rw (c.in_ok-push.ensures.bytes, c.variable_letter.ensures)
    (letters_more _ _ _ _ _ c.loop-letter.invariant c.in-Some.ensures.steps.0)
