use Rattle.std.proofs.Common.{◌∙◌, sym}
use Rattle.run_jobs.proofs.LedgerLemmas.{last_read}
use Rattle.run_jobs.proofs.ledger.has_last_passed.Goals as goal

pub returns-in-Some : goal.returns-in-Some
returns-in-Some c = c.is_success.ensures ∙ last_read c.args.statuses.now c.in-Some.last.now (sym
    c.in-Some.ensures.value)
