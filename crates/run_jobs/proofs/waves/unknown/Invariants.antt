use Rattle.std.proofs.Common.{◌≤◌, ◌-◌, length}
use Rattle.run_jobs.proofs.waves.unknown.Given as goal

abbrev pub invariant-states : goal.invariant-states
invariant-states l = length l.states.items ≤ l.count

abbrev pub decreases-states : goal.decreases-states
decreases-states l = l.count - length l.states.items
