use Rattle.std.proofs.Common.{length, refl}
use Rattle.run_engine.specs.World.{outside}
use Rattle.run_jobs.proofs.NextLemmas.{due_error, finished}
use Rattle.run_jobs.proofs.waves.run_with.Goals as goal

pub returns-in-Ok : goal.returns-in-Ok
returns-in-Ok g c =
    finished g.R.Reporter.told g.C.Children.asked
    (outside g.R.Reporter.faults c.args.report.now c.run_due.new.report c.args.children.now c.run_due.new.children)
    c.args.jobs.now c.args.turns.now c.run_due.new.states c.in-Ok.due (length c.args.turns.now) c.finish.result
    refl c.in-Ok.ensures.says c.finish.ensures

pub returns-in-Err : goal.returns-in-Err
returns-in-Err g c =
    due_error g.R.Reporter.told g.C.Children.asked
    (outside g.R.Reporter.faults c.args.report.now c.run_due.new.report c.args.children.now c.run_due.new.children)
    c.args.jobs.now c.args.turns.now c.run_due.new.states c.in-Err.error c.in-Err.ensures.says
