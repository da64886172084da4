use Rattle.std.proofs.Common.{sym}
use Rattle.run_events.proofs.StatsLemmas.{last_or_read}
use Rattle.run_events.proofs.adds.last_result.Goals as goal

pub returns-in-Some : goal.returns-in-Some
returns-in-Some c = last_or_read _ c.args.results.now c.in-Some.last.now (sym c.in-Some.ensures.value)
