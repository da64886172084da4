use Rattle.std.proofs.Common.{subst, Ok}
use Rattle.run_cli.specs.Call.{writing_of}
use Rattle.run_cli.specs.Finish.{EndsAtFault, EndsAtOutcome, IsAnswered}
use Rattle.run_cli.proofs.EndLemmas.{outcome_ends, error_ends}
use Rattle.run_cli.proofs.ended.finish.Goals as goal

pub returns-in-Ok : goal.returns-in-Ok
returns-in-Ok g c = λ form p turns w on from x.
    let end = c.end_at_outcome in
    let v = writing_of g.K.Sink c.args.sink end.result.sink in
    let run = (subst (IsAnswered form p turns w c.args.asks.now) c.in-Ok.is x).0 in
    outcome_ends form p turns w v run.0 c.in-Ok.outcome end.result.ending on from run.2
    (subst (λ lines. EndsAtOutcome v lines c.in-Ok.outcome end.result.ending) run.1 end.ensures.ends) end.ensures.later

pub returns-in-Err : goal.returns-in-Err
returns-in-Err g c = λ form p turns w on from x.
    let end = c.end_at_fault in
    let v = writing_of g.K.Sink c.args.sink end.result.sink in
    error_ends form p turns w v c.args.asks.now c.in-Err.error end.result.ending on from
    (subst (IsAnswered form p turns w c.args.asks.now) c.in-Err.is x)
    (subst (λ f. EndsAtFault v c.args.asks.now f end.result.ending) c.fault_of_error-fault.ensures end.ensures)
