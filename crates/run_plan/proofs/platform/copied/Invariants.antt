use Rattle.std.proofs.Common.{◌≡◌, map, take}
use Rattle.run_plan.proofs.platform.copied.Given as goal

abbrev pub invariant-loop-line : goal.invariant-loop-line
invariant-loop-line l = l.texts ≡ map (λ line. line.now) (take l.line-index l.lines)
