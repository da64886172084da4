use Rattle.run_shared.proofs.LeftLemmas.{left_of}
use Rattle.run_shared.proofs.shared.closed_of.Goals as goal

pub returns-clause-left : goal.returns-clause-left
returns-clause-left g c heard =
    left_of g.R.Reporter.told c.args.report c.args.asks c.args.run c.into_journal-journal.result
    c.outcome-outcome.result
    c.into_journal-journal.ensures.journal c.outcome-outcome.ensures.runnable c.into_journal-journal.ensures.unfinished
    c.outcome-outcome.ensures.outcome heard
