use Rattle.std.proofs.Common.{◌≡◌, ◌<◌, ℕ, get_or, Some, None}
use Rattle.run_state.specs.Counted.{working_in}
use Rattle.run_state.specs.First.{phase_of}
use Rattle.run_state.proofs.units.Units.first_in.Given as goal

abbrev pub invariant-loop-place : goal.invariant-loop-place
invariant-loop-place l =
    (j : ℕ) → j < l.place → phase_of (get_or l.self (get_or (working_in l.self) j 0) None) ≡ Some l.phase → ⊥
