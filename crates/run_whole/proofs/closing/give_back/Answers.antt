use Rattle.std.proofs.Common.{sym, subst}
use Rattle.run_live.specs.Left.{HasTakenSome}
use Rattle.run_live.proofs.LeftLemmas.{taken_closed, taken_unclosed}
use Rattle.run_whole.proofs.closing.give_back.Goals as goal

pub returns-in-Ok-clause-some_turns : goal.returns-in-Ok-clause-some_turns
returns-in-Ok-clause-some_turns g c =
    let closed = c.in-Ok.closed in
    subst (HasTakenSome g.R.Reporter.taken) (sym c.cut_off_closed.ensures.report)
    (taken_closed g.R.Reporter.told g.R.Reporter.taken closed.report closed.asks c.args.shared closed.journal
    closed.outcome c.in-Ok.ensures.left c.in-Ok.ensures.turns)

pub returns-in-Err-clause-some_turns : goal.returns-in-Err-clause-some_turns
returns-in-Err-clause-some_turns g c =
    let u = c.in-Err.unclosed in
    subst (HasTakenSome g.R.Reporter.taken) (sym c.report_left.ensures)
    (taken_unclosed g.R.Reporter.told g.R.Reporter.taken u.report u.asks c.args.shared u.journal u.error.kind
    c.in-Err.ensures.left_too c.in-Err.ensures.turns_too)
