use Rattle.std.proofs.Common.{◌≡◌, ◌++◌, length}
use Rattle.run_commands.specs.EnvMap.{pairs_in}
use Rattle.run_commands.proofs.env_map.pairs_of.Given as goal

abbrev pub invariant-loop-key : goal.invariant-loop-key
invariant-loop-key l = l.pairs ++ pairs_in l.entries.entries ≡ pairs_in l.fn.entries.entries

abbrev pub decreases-loop-key : goal.decreases-loop-key
decreases-loop-key l = length l.entries.entries
