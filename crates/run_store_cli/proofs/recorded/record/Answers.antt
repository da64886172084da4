use Rattle.run_cli.specs.Call.{reading_of, writing_of}
use Rattle.run_store_cli.proofs.RecordCauses.{record_gets}
use Rattle.run_store_cli.proofs.recorded.record.Goals as goal

pub returns-clause-causes : goal.returns-clause-causes
returns-clause-causes g c =
    let end = c.record_source in
    record_gets (reading_of g.S.Source c.args.source.now end.new.source)
    (writing_of g.K.Sink c.args.sink end.result.sink) end.result.status end.ensures
