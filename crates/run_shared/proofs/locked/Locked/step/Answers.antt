use Rattle.std.proofs.Common.{subst}
use Rattle.run_engine.specs.World.{World}
use Rattle.run_shared.specs.Adds.{AddsTurn}
use Rattle.run_shared.proofs.LockedLemmas.{adds_turn}
use Rattle.run_shared.proofs.locked.Locked.step.Goals as goal

pub returns-clause-adds : goal.returns-clause-adds
returns-clause-adds g c =
    subst (λ (w : World). AddsTurn w c.args.turn c.step.new.self) c.self.view_is
    (adds_turn _ _ _ c.args.turn c.self.inside.run c.step.new.self _ c.in_ok-place.ensures.takes.1)
