use Rattle.std.proofs.Common.{ap, List}
use Rattle.run_model.specs.declared.entry.Entry.{Entry}
use Rattle.run_model.specs.Journal.{past_of, outcome}
use Rattle.run_shared.proofs.LeftLemmas.{left_of}
use Rattle.run_shared.proofs.shared.unclosed_of.Goals as goal

pub returns-clause-left : goal.returns-clause-left
returns-clause-left g c heard =
    let p = c.args.run.settings in
    let e = c.into_journal-journal.ensures in
    left_of g.R.Reporter.told c.args.report c.args.asks c.args.run c.into_journal-journal.result
    (outcome p (past_of p c.into_journal-journal.result)) e.journal e.runnable e.unfinished
    (ap (λ (es : List Entry). outcome p (past_of p es)) e.journal) heard
