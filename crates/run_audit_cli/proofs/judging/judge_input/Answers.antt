use Rattle.std.proofs.Common.{Err, subst}
use Rattle.run_audit.specs.Audit.{SaysAudit}
use Rattle.run_audit_cli.proofs.FoundLemmas.{runs_stopped}
use Rattle.run_audit_cli.proofs.judging.judge_input.Goals as goal

pub returns-in-Ok : goal.returns-in-Ok
returns-in-Ok c =
    let input = c.args.input in
    let error = c.in-Err-audit.error in
    let says = subst (λ turns. SaysAudit c.in-Ok.runner turns c.args.events.now (Err error)) c.as_slice.ensures
    c.in-Err-audit.ensures.says in
    rw c.fault_of_error.ensures
    (runs_stopped input.keys input.plan c.in-Ok.runner input.turns c.args.events.now error c.in-Ok.ensures says)
