use Rattle.std.proofs.Common.{sym, subst}
use Rattle.run_live.specs.Left.{HasToldSome, HasTakenSome}
use Rattle.run_live.proofs.LeftLemmas.{told_closed, told_unclosed, taken_closed, taken_unclosed}
use Rattle.run_live.proofs.ending.report_of.Goals as goal

pub returns-in-Ok-clause-told : goal.returns-in-Ok-clause-told
returns-in-Ok-clause-told g c =
    subst (HasToldSome g.R.Reporter.told) (sym c.report_closed.ensures)
    (told_closed g.R.Reporter.told _ c.in-Ok.closed.asks c.args.shared c.in-Ok.closed.journal c.in-Ok.closed.outcome
    c.in-Ok.ensures.left)

pub returns-in-Err-clause-told : goal.returns-in-Err-clause-told
returns-in-Err-clause-told g c =
    subst (HasToldSome g.R.Reporter.told) (sym c.report_left.ensures)
    (told_unclosed g.R.Reporter.told _ c.in-Err.unclosed.asks c.args.shared c.in-Err.unclosed.journal
    c.in-Err.unclosed.error.kind c.in-Err.ensures.left_too)

pub returns-in-Ok-clause-turns : goal.returns-in-Ok-clause-turns
returns-in-Ok-clause-turns g c =
    let closed = c.in-Ok.closed in
    subst (HasTakenSome g.R.Reporter.taken) (sym c.report_closed.ensures)
    (taken_closed g.R.Reporter.told g.R.Reporter.taken closed.report closed.asks c.args.shared closed.journal
    closed.outcome c.in-Ok.ensures.left c.in-Ok.ensures.turns)

pub returns-in-Err-clause-turns : goal.returns-in-Err-clause-turns
returns-in-Err-clause-turns g c =
    let u = c.in-Err.unclosed in
    subst (HasTakenSome g.R.Reporter.taken) (sym c.report_left.ensures)
    (taken_unclosed g.R.Reporter.told g.R.Reporter.taken u.report u.asks c.args.shared u.journal u.error.kind
    c.in-Err.ensures.left_too c.in-Err.ensures.turns_too)
