use Rattle.run_jobs.proofs.ComesLemmas.{answers_one}
use Rattle.run_jobs.proofs.jobs.Jobs.run_waves.Goals as goal

pub returns-clause-comes : goal.returns-clause-comes
returns-clause-comes g c = λ still answer comes.
    answers_one g.R.Reporter.told g.C.Children.asked _ c.args.self.now c.args.turns.now c.run_all.result answer
    c.run_all.ensures still comes
