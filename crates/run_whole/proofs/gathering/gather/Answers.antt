use Rattle.std.proofs.Common.{rules, ◌+◌}
use Rattle.run_whole.proofs.gathering.gather.Goals as goal

pub loop-one-preserved : goal.loop-one-preserved
loop-one-preserved g c =
    let was = c.loop-one.invariant in let step = c.in-Some.ensures.steps in
    (c.in_ok-add.ensures.gathered, search rules, λ k d below. let h = was.2 (k + 1) d in grind rules)
