use Rattle.std.proofs.Common.{◌≡◌, map, drop, false}
use Rattle.run_events.specs.Stats.{last_or}
use Rattle.run_laws_plain.proofs.statistics.is_last_slow.Given as goal

abbrev pub invariant-loop-status : goal.invariant-loop-status
invariant-loop-status l =
    last_or l.slow (map (λ s. s.slow) (drop l.status-index l.statuses))
    ≡ last_or false (map (λ s. s.slow) l.statuses)
