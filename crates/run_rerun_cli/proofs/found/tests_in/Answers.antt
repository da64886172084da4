use Rattle.std.proofs.Common.{◌≡◌, Err, Some, subst, true, false}
use Rattle.run_events.specs.declared.plan.Plan.{Plan}
use Rattle.run_input.specs.Input.{plan_line_of}
use Rattle.run_input.specs.declared.plan_line.RunnerKeys.{RunnerKeys}
use Rattle.run_rerun.specs.declared.answers.RerunError.{RerunError}
use Rattle.run_rerun.specs.Runs.{SaysStored}
use Rattle.run_rerun_cli.specs.Finds.{IsFoundRefusal}
use Rattle.run_rerun_cli.proofs.FoundLemmas.{has_refusal, has_stop, has_tests}
use Rattle.run_rerun_cli.proofs.found.tests_in.Goals as goal

pub returns-in-Ok-clause-says : goal.returns-in-Ok-clause-says
returns-in-Ok-clause-says c = λ told has.
    has_tests told c.args.stored.now c.in-Ok.tests has c.requires.plan c.in-Ok.ensures.says

pub returns-in-Err-Plan-clause-says : goal.returns-in-Err-Plan-clause-says
returns-in-Err-Plan-clause-says c = λ told has.
    has_refusal told c.args.stored.now c.refusal_in.result has c.requires.plan c.refusal_in.ensures.quiet
    (subst (λ line. (keys : RunnerKeys) (plan : Plan) → plan_line_of line ≡ Some (keys, plan)
    → IsFoundRefusal keys plan c.refusal_in.result) c.as_slice.ensures c.refusal_in.ensures.says)

pub returns-in-Err-NotEnabled-clause-says : goal.returns-in-Err-NotEnabled-clause-says
returns-in-Err-NotEnabled-clause-says c = λ told has.
    let s = c.args.stored.now in
    let a = c.in-Err-NotEnabled in
    has_stop told s a.turn false has c.requires.plan
    (λ keys plan said. subst (λ (e : RerunError). SaysStored keys plan s.turns (Err e)) a.field-0-is
    (a.ensures.says keys plan said))

pub returns-in-Err-ThirdSignal-clause-says : goal.returns-in-Err-ThirdSignal-clause-says
returns-in-Err-ThirdSignal-clause-says c = λ told has.
    let s = c.args.stored.now in
    let a = c.in-Err-ThirdSignal in
    has_stop told s a.turn true has c.requires.plan
    (λ keys plan said. subst (λ (e : RerunError). SaysStored keys plan s.turns (Err e)) a.field-0-is
    (a.ensures.says keys plan said))
