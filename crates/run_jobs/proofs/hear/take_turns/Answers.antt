use Rattle.run_jobs.proofs.RunLemmas.{heard_to_end}
use Rattle.run_jobs.proofs.hear.take_turns.Goals as goal

pub returns-in-Ok : goal.returns-in-Ok
returns-in-Ok c =
    heard_to_end _ _ c.args.runner c.args.turns.now _ c.in-Ok.ensures.executes c.requires.fresh
