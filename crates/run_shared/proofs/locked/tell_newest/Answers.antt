use Rattle.std.proofs.Common.{sym}
use Rattle.run_shared.proofs.LockedLemmas.{some_newest, told_newest}
use Rattle.run_shared.proofs.locked.tell_newest.Goals as goal

pub returns-in_default-clause-turns : goal.returns-in_default-clause-turns
returns-in_default-clause-turns g c = λ before newest is told.
    absurd (some_newest c.args.run.now.journal before newest
    (rw c.journal.ensures.journal at (rw c.in_default.is at c.last.ensures.value)) is)

pub returns-clause-turns : goal.returns-clause-turns
returns-clause-turns g c = λ before newest is told.
    told_newest g.R.Reporter.taken c.args.report.now c.took.new.self c.args.run.now.journal before newest
    c.in-Some.entry.now (rw c.journal.ensures.journal at (rw c.in-Some.is at c.last.ensures.value)) is
    c.took.ensures.turns told
