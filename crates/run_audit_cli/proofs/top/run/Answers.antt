use Rattle.run_cli.specs.Call.{reading_of, writing_of}
use Rattle.run_audit_cli.proofs.CauseLemmas.{audit_causes}
use Rattle.run_audit_cli.proofs.top.run.Goals as goal

pub returns-then-is_word-clause-causes : goal.returns-then-is_word-clause-causes
returns-then-is_word-clause-causes g c = λ word.
    let end = c.audit_given in
    audit_causes (reading_of g.S.Source c.args.source.now end.new.source)
    (writing_of g.K.Sink c.args.sink end.result.sink) end.result.status end.ensures
