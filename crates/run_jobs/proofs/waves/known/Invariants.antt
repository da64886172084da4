use Rattle.std.proofs.Common.{◌≡◌, map, take, Some}
use Rattle.run_jobs.proofs.waves.known.Given as goal

abbrev pub invariant-loop-state : goal.invariant-loop-state
invariant-loop-state l = map Some l.known ≡ take l.state-index l.states
