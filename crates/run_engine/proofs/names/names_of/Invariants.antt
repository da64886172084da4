use Rattle.std.proofs.Common.{take}
use Rattle.run_engine.specs.Names.{HasNames}
use Rattle.run_engine.proofs.names.names_of.Given as goal

abbrev pub invariant-loop-group : goal.invariant-loop-group
invariant-loop-group l = HasNames (take l.group-index l.groups) l.names
