use Rattle.std.proofs.Common.{take}
use Rattle.run_audit_passes.specs.LimitTable.{AreLimits}
use Rattle.run_audit_passes.proofs.limit.limits_of.Given as goal

abbrev pub invariant-loop-group : goal.invariant-loop-group
invariant-loop-group l = AreLimits (take l.group-index l.groups) l.limits
