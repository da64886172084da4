use Rattle.run_commands.proofs.EnvMapLemmas.{by_name}
use Rattle.run_commands.proofs.env_map.EnvMap.from_entries.Goals as goal

pub invariant_of-result : goal.invariant_of-result
invariant_of-result c = rw c.in_ok-pairs_of.ensures (by_name _ c.requires)
