use Rattle.run_keep.proofs.MindLemmas.{keeps_ended}
use Rattle.run_keep.proofs.threads.keep.Goals as goal

pub returns-in-Ok-clause-keeps : goal.returns-in-Ok-clause-keeps
returns-in-Ok-clause-keeps g c =
    keeps_ended g.K.Keeper.has_heard c.args.keeper.now c.keep_on.new.keeper c.end.new.self c.in-Ok.work
    c.in-Ok.ensures.keeps c.end.ensures
