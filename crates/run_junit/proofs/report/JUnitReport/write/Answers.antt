use Rattle.run_junit.proofs.HeardLemmas.{written_heard}
use Rattle.run_junit.proofs.report.JUnitReport.write.Goals as goal

pub returns-in-Ok-clause-written : goal.returns-in-Ok-clause-written
returns-in-Ok-clause-written g c events so_far =
    written_heard c.args.self.now.started c.in-Ok.heard events (g.K.Sink.taken c.args.sink.now)
    (g.K.Sink.taken c.write_heard.new.sink) c.write_heard.result (rw c.in-Ok.is at so_far)
    c.write_heard.ensures.written
