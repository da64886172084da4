use Rattle.std.proofs.Common.{ℕ, ◌≡◌, ◌-◌, ◌+◌, [], length, get_or}
use Rattle.run_jobs.proofs.levels.grow.Given as goal

abbrev pub invariant-grow : goal.invariant-grow
invariant-grow l = (w : ℕ) → get_or l.waves.items w [] ≡ get_or l.initial.waves.items w []

abbrev pub decreases-grow : goal.decreases-grow
decreases-grow l = (l.level + 1) - length l.waves.items
