use Rattle.std.proofs.Common.{◌∙◌, ap}
use Rattle.run_progress.specs.Edits.{without}
use Rattle.run_progress.proofs.tests_by_start.Started.finish.Goals as goal

pub invariant_of-self : goal.invariant_of-self
invariant_of-self c = c.remove.ensures.finds c.self.inside.next c.self.invariant

pub returns : goal.returns
returns c = c.remove.ensures.tests c.self.inside.next c.self.invariant ∙ ap (without c.args.id.now) c.self.view_is
