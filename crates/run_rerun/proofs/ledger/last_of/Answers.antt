use Rattle.std.proofs.Common.{sym, false}
use Rattle.run_events.specs.declared.result.ExecutionResult.TheVariants.{ExecFail}
use Rattle.run_rerun.proofs.LedgerLemmas.{last_or_mapped}
use Rattle.run_rerun.proofs.ledger.last_of.Goals as goal

pub returns-in-Some-clause-slow : goal.returns-in-Some-clause-slow
returns-in-Some-clause-slow c =
    last_or_mapped (λ s. s.slow) false c.args.statuses.now c.in-Some.last.now (sym c.in-Some.ensures.value)

pub returns-in-Some-clause-last : goal.returns-in-Some-clause-last
returns-in-Some-clause-last c =
    last_or_mapped (λ s. s.result) ExecFail c.args.statuses.now c.in-Some.last.now (sym c.in-Some.ensures.value)
