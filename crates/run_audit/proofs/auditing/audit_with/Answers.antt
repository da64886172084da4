use Rattle.run_audit.proofs.RunLemmas.{gets_error, says_error, says_verdict}
use Rattle.run_audit.proofs.auditing.audit_with.Goals as goal

pub returns-in-Ok-judge-clause-says : goal.returns-in-Ok-judge-clause-says
returns-in-Ok-judge-clause-says c =
    let a = c.args in
    says_verdict _ c.new-log.result c.execute.new.log _ _ a.runner a.turns.now a.events.now a.needs.now
    a.limit c.in-Ok-judge.verdict c.in-Ok.field-0 c.in-Ok.ensures.executes c.new-log.ensures c.requires.needs
    c.requires.limit c.events-told.result.now c.events-told.ensures c.known_told.ensures c.in-Ok-judge.ensures

pub returns-clause-says : goal.returns-clause-says
returns-clause-says c =
    let a = c.args in
    says_error _ c.new-log.result c.execute.new.log _ _ a.runner a.turns.now a.events.now c.in-Err.error
    c.in-Err.ensures.executes

pub returns-clause-gets : goal.returns-clause-gets
returns-clause-gets c =
    let a = c.args in
    gets_error c.new-log.result c.execute.new.log _ _ a.runner a.turns.now c.in-Err.error c.in-Err.ensures.course
