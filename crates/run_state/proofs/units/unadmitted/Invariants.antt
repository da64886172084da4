use Rattle.std.proofs.Common.{◌≡◌, ℕ, None, length, get_or}
use Rattle.run_state.proofs.units.unadmitted.Given as goal

abbrev pub invariant-loop-number : goal.invariant-loop-number
invariant-loop-number l = (length l.units.items ≡ l._number) × ((k : ℕ) → get_or l.units.items k None ≡ None)
