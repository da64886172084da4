use Rattle.run_engine.proofs.PartLemmas.{breaks_idle}
use Rattle.std.proofs.Common.{ap, Err}
use Rattle.run_engine.proofs.HeardLemmas.{heard_refused, heard_named}
use Rattle.run_engine.proofs.run.Run.take.Goals as goal

pub returns-in-Err-clause-part : goal.returns-in-Err-clause-part
returns-in-Err-clause-part g c = λ e.
    breaks_idle g.R.Reporter.told g.C.Children.asked g.R.Reporter.faults c.args.report.now c.args.children.now _ _ _

pub returns-in-Err-clause-heard : goal.returns-in-Err-clause-heard
returns-in-Err-clause-heard g c =
    heard_refused g.R.Reporter.told g.C.Children.asked c.args.report.now c.args.children.now c.args.self.now
    c.admit.new.self c.in-Err.error c.in-Err.ensures.unchanged (λ e. (c.in-Err.ensures.broken (ap Err e)).0)

pub returns-in-Ok-clause-heard : goal.returns-in-Ok-clause-heard
returns-in-Ok-clause-heard g c =
    heard_named g.R.Reporter.told g.C.Children.asked g.R.Reporter.faults c.args.report.now c.take_named.new.report
    c.args.children.now c.take_named.new.children c.args.turn c.args.self.now c.admit.new.self c.take_named.new.self
    c.take_named.result c.in-Ok.ensures.same c.in-Ok.ensures.sound c.in-Ok.ensures.room c.take_named.ensures.takes
    c.take_named.ensures.broken c.take_named.ensures.memory c.take_named.ensures.part
