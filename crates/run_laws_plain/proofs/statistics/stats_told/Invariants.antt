use Rattle.std.proofs.Common.{◌≡◌, take}
use Rattle.run_laws_events.specs.Counts.{stats_of_events}
use Rattle.run_laws_plain.proofs.statistics.stats_told.Given as goal

abbrev pub invariant-loop-event : goal.invariant-loop-event
invariant-loop-event l = l.stats ≡ stats_of_events l.settings l.fn.reason (take l.event-index l.events)
