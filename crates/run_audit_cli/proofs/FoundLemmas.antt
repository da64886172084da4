-- What is found of an input.
use Rattle.std.proofs.Common.{List, [], ◌∷◌, ℕ, Ok, Err, true, false, subst}
use Rattle.std.specs.declared.convert.Infallible.{Infallible}
use Rattle.run_events.specs.declared.plan.Plan.{Plan}
use Rattle.run_events.specs.declared.settings.Settings.{Settings}
use Rattle.run_events.specs.declared.turn.Turn.{Turn}
use Rattle.run_laws.specs.Course.{GoesOn, Stops, refuses_none}
use Rattle.run_engine.specs.Builder.{IsBuilt}
use Rattle.run_engine.specs.declared.errors.TestRunnerExecuteErrors.{TestRunnerExecuteErrors}
use Rattle.run_engine.specs.declared.errors.TestRunnerExecuteErrors.TheVariants as engine
use Rattle.run_input.specs.Lines.{lines_of}
use Rattle.run_input.specs.declared.plan_line.RunnerKeys.{RunnerKeys}
use Rattle.run_audit_model.specs.declared.audit_event.AuditEvent.{AuditEvent}
use Rattle.run_audit.specs.Audit.{SaysAudit}
use Rattle.run_cli.specs.Call.{Reading}
use Rattle.run_cli.specs.Plans.{builder_of}
use Rattle.run_cli.specs.Short.{fault_of_error}
use Rattle.run_cli.proofs.GivenLemmas.{IsFew, line_few}
use Rattle.run_audit_cli.specs.AuditGiven.{GivesAudit}
use Rattle.run_audit_cli.specs.AuditJudged.{JudgesInput}
use Rattle.run_audit_cli.specs.AuditLines.{IsAuditInput}

-- the plan of an input has few units
lines_few : (lines : List (List ℕ)) (k : RunnerKeys) (p : Plan) (ts : List Turn) (es : List AuditEvent)
    → IsAuditInput lines k p ts es → IsFew p
lines_few [] k p ts es says = absurd says
lines_few (first ∷ others) k p ts es says = line_few first k p says.0

pub given_few : (r : Reading) (k : RunnerKeys) (p : Plan) (ts : List Turn) (es : List AuditEvent)
    → GivesAudit r k p ts es → IsFew p
given_few r k p ts es g = lines_few (lines_of g.bytes) k p ts es g.says

-- turns that stop, or leave the run unfinished, give no verdict
pub runs_stopped : (k : RunnerKeys) (p : Plan) (runner : Settings) (ts : List Turn) (es : List AuditEvent)
    (e : TestRunnerExecuteErrors Infallible) → IsBuilt (builder_of k) p (Ok runner) → SaysAudit runner ts es (Err e)
    → JudgesInput k p ts es (Err (fault_of_error e))
runs_stopped k p runner ts es (engine.NotEnabled place) built stops =
    (built.0, subst (λ s. Stops s ts refuses_none place false) built.1 stops)
runs_stopped k p runner ts es (engine.ThirdSignal place) built stops =
    (built.0, subst (λ s. Stops s ts refuses_none place true) built.1 stops)
runs_stopped k p runner ts es engine.Unfinished built going =
    (built.0, subst (λ s. GoesOn s ts refuses_none) built.1 going)
runs_stopped k p runner ts es (engine.Report error) built never = absurd never
runs_stopped k p runner ts es engine.OutOfMemory built any = tt
