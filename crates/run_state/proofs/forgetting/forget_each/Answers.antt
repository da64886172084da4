use Rattle.std.proofs.Common.{None}
use Rattle.std.proofs.lemmas.List.Edits.{map_over_more}
use Rattle.run_state.proofs.forgetting.forget_each.Goals as goal

pub loop-unit-preserved : goal.loop-unit-preserved
loop-unit-preserved c = map_over_more (λ _. None) _ _ _ _ c.loop-unit-test.true c.loop-unit.invariant c.unit-item.is
