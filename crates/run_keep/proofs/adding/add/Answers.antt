use Rattle.std.proofs.Common.{refl}
use Rattle.run_keep.proofs.EnterLemmas.{adds_refused}
use Rattle.run_keep.proofs.adding.add.Goals as goal

pub returns-clause-adds : goal.returns-clause-adds
returns-clause-adds g c =
    adds_refused c.args.work.now _ c.args.turn c.in-Some.refusal c.requires.unwritten
    (rw c.in-Some.is at c.in_ok-refusal.ensures.enters) c.in_ok-push.ensures.ok refl refl
