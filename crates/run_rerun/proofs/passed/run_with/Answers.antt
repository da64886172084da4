use Rattle.run_rerun.proofs.RunLemmas.{says_tests}
use Rattle.run_rerun.proofs.passed.run_with.Goals as goal

pub returns-in-Ok-tests_of-clause-says : goal.returns-in-Ok-tests_of-clause-says
returns-in-Ok-tests_of-clause-says c =
    let a = c.args in
    says_tests a.runner a.turns.now c.take_turns.new.ledger c.in-Ok-tests_of.tests a.had.items c.in-Ok.over
    c.in-Ok.ensures.says c.requires.had c.in-Ok-tests_of.ensures.had c.in-Ok-tests_of.ensures.passed
    c.in-Ok-tests_of.ensures.over
