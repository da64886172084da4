-- The ledger is up to date at first.
use Rattle.std.proofs.Common.{false, ap}
use Rattle.example_supervisor.proofs.Heard.{at_first}
use Rattle.example_supervisor.proofs.supervisor.supervise.Goals as goal

pub report-report-requires-clause-told : goal.report-report-requires-clause-told
report-report-requires-clause-told c =
    at_first _ _ _ _ c.in_ok-run.ensures (ap (λ l. record { results = l; cancelled = false }) c.new-results.ensures)
