use Rattle.std.proofs.Common.{◌≡◌, map, drop}
use Rattle.run_events.specs.Stats.{last_or}
use Rattle.run_events.specs.declared.result.ExecutionResult.TheVariants.{ExecFail}
use Rattle.run_laws_plain.proofs.statistics.last_result.Given as goal

abbrev pub invariant-loop-status : goal.invariant-loop-status
invariant-loop-status l =
    last_or l.last (map (λ s. s.result) (drop l.status-index l.statuses))
    ≡ last_or ExecFail (map (λ s. s.result) l.statuses)
