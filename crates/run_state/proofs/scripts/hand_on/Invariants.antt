use Rattle.std.proofs.Common.{◌≡◌, ◌++◌, take}
use Rattle.run_state.proofs.scripts.hand_on.Given as goal

abbrev pub invariant-loop-variable : goal.invariant-loop-variable
invariant-loop-variable l = l.handed ≡ l.fn.handed ++ take l.variable-index l.variables
