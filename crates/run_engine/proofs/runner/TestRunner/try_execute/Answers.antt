use Rattle.run_engine.proofs.CourseLemmas.{executed_course, executed_fates}
use Rattle.run_engine.proofs.runner.TestRunner.try_execute.Goals as goal

pub returns-clause-course : goal.returns-clause-course
returns-clause-course g c =
    executed_course g.R.Reporter.told g.C.Children.asked _ c.args.self c.args.turns.now c.carry_out.result
    c.carry_out.ensures.carries

pub returns-clause-executes : goal.returns-clause-executes
returns-clause-executes g c =
    executed_fates g.R.Reporter.told g.C.Children.asked _ c.args.self c.args.turns.now c.carry_out.result
    c.carry_out.ensures.carries
