use Rattle.run_report.proofs.SpeaksLemmas.{speaks_first}
use Rattle.run_report.proofs.report.RunReport.new.Goals as goal

pub returns-clause-heard : goal.returns-clause-heard
returns-clause-heard g c =
    rw c.of-start.ensures
    (speaks_first c.args.settings (g.K.Sink.taken c.args.sink) (g.K.Sink.faults c.args.sink) c.nothing.result
    c.nothing.ensures)

pub returns-clause-told : goal.returns-clause-told
returns-clause-told g c =
    rw c.of-start.ensures
    (speaks_first c.args.settings (g.K.Sink.taken c.args.sink) (g.K.Sink.faults c.args.sink) c.nothing.result
    c.nothing.ensures)
