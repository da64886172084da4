-- A ledger that was told a list was told one more event.
use Rattle.example_supervisor.proofs.Heard.{heard_more}
use Rattle.example_supervisor.proofs.outside.LedgerReporter.report.Goals as goal

pub returns-in-Ok-clause-told : goal.returns-in-Ok-clause-told
returns-in-Ok-clause-told c = heard_more _ _ _ _ c.in-Ok.ensures.results c.in-Ok.ensures.cancelled
