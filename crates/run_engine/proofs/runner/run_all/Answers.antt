use Rattle.run_engine.proofs.UnkeptLemmas.{carries_final}
use Rattle.run_engine.proofs.runner.run_all.Goals as goal

pub returns-in-Ok-clause-carries : goal.returns-in-Ok-clause-carries
returns-in-Ok-clause-carries g c =
    carries_final g.R.Reporter.told g.C.Children.asked _ c.args.settings.now c.args.turns.now c.take_all.new.state
    c.in-Ok.refusal c.answer.result c.in-Ok.ensures.ok c.answer.ensures
