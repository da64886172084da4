use Rattle.run_report.proofs.BothLemmas.{both_not, both_took}
use Rattle.run_report.proofs.both.BothReporter.report.Goals as goal

pub returns-in-Ok-clause-told : goal.returns-in-Ok-clause-told
returns-in-Ok-clause-told g c =
    both_took g.A.Reporter.told g.B.Listener.heard c.args.self.now.lines c.report.new.self c.args.self.now.report
    c.hear.new.self c.args.event.now c.in-Ok.ensures.told c.hear.ensures.heard

pub returns-in-Err-clause-told : goal.returns-in-Err-clause-told
returns-in-Err-clause-told g c =
    both_not g.A.Reporter.told g.B.Listener.heard c.args.self.now.lines c.report.new.self c.args.self.now.report
    c.args.event.now c.in-Err.fault c.in-Err.ensures.told

pub returns-in-Ok-clause-turns : goal.returns-in-Ok-clause-turns
returns-in-Ok-clause-turns g c = λ turns told.
    (c.report.ensures.turns turns told.0, c.hear.ensures.turns turns told.1)

pub returns-in-Err-clause-turns : goal.returns-in-Err-clause-turns
returns-in-Err-clause-turns g c = λ turns told. (c.report.ensures.turns turns told.0, told.1)
