-- What is found of a plan, turns and events.
use Rattle.std.specs.Prelude.{◌≡◌, List, ⊤, true, false, None, Result, Ok, Err}
use Rattle.run_events.specs.declared.plan.Plan.{Plan}
use Rattle.run_events.specs.declared.turn.Turn.{Turn}
use Rattle.run_laws.specs.Course.{GoesOn, Stops, refuses_none}
use Rattle.run_input.specs.declared.plan_line.RunnerKeys.{RunnerKeys}
use Rattle.run_output.specs.declared.fault.Fault.{Fault}
use Rattle.run_output.specs.declared.fault.Fault.TheVariants.{Plan as BadPlan, NotEnabled, ThirdSignal}
use Rattle.run_output.specs.declared.fault.Fault.TheVariants.{Unfinished, Memory}
use Rattle.run_audit_model.specs.declared.audit_event.AuditEvent.{AuditEvent}
use Rattle.run_audit_model.specs.declared.audit_event.Verdict.{Verdict}
use Rattle.run_audit.specs.Audit.{IsVerdictOn}
use Rattle.run_cli.specs.Plans.{IsPlanFault, plan_refusal, settings_for}

-- the verdict on the events, or why there is none: the plan is refused, or its turns stop or leave the run unfinished;
-- want of memory says nothing
abbrev pub JudgesInput : RunnerKeys → Plan → List Turn → List AuditEvent → Result Verdict Fault → Type 0
JudgesInput keys plan turns events (Ok verdict) =
    (plan_refusal keys plan ≡ None) × IsVerdictOn (settings_for keys plan) turns events verdict
JudgesInput keys plan turns events (Err (BadPlan fault)) = IsPlanFault keys plan fault
JudgesInput keys plan turns events (Err (NotEnabled place)) =
    (plan_refusal keys plan ≡ None) × Stops (settings_for keys plan) turns refuses_none place false
JudgesInput keys plan turns events (Err (ThirdSignal place)) =
    (plan_refusal keys plan ≡ None) × Stops (settings_for keys plan) turns refuses_none place true
JudgesInput keys plan turns events (Err Unfinished) =
    (plan_refusal keys plan ≡ None) × GoesOn (settings_for keys plan) turns refuses_none
JudgesInput keys plan turns events (Err Memory) = ⊤
JudgesInput keys plan turns events (Err _) = ⊥
