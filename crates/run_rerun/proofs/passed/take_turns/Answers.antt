use Rattle.std.proofs.Common.{sym, subst}
use Rattle.run_rerun.specs.Taken.{GetsTaken, SaysTaken}
use Rattle.run_rerun.proofs.RunLemmas.{taken_gets, taken_says}
use Rattle.run_rerun.proofs.passed.take_turns.Goals as goal

pub returns-clause-says : goal.returns-clause-says
returns-clause-says c =
    let a = c.args in
    subst (SaysTaken a.runner a.turns.now c.try_execute.new.report) (sym c.as_rerun.ensures)
    (taken_says _ a.ledger.now c.try_execute.new.report _ _ a.runner a.turns.now c.try_execute.result
    c.try_execute.ensures.executes c.requires.fresh)

pub returns-clause-gets : goal.returns-clause-gets
returns-clause-gets c =
    let a = c.args in
    subst (GetsTaken a.runner a.turns.now) (sym c.as_rerun.ensures)
    (taken_gets a.ledger.now c.try_execute.new.report _ _ a.runner a.turns.now c.try_execute.result
    c.try_execute.ensures.course)
