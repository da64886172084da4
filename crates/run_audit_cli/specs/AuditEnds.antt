-- How the program of audits ends with a verdict or a fault.
use Rattle.std.specs.Prelude.{ℕ, ◌≡◌, ◌⊎◌, ◌≤◌, [], Err}
use Rattle.run_audit_model.specs.declared.audit_event.Verdict.{Verdict}
use Rattle.run_output.specs.Faults.{fault_status}
use Rattle.run_output.specs.Fields.{line_bytes}
use Rattle.run_output.specs.declared.fault.Fault.{Fault}
use Rattle.run_cli.specs.Call.{Writing, HasTaken, HasTakenFront, HasWriteFault}
use Rattle.run_cli.specs.Finish.{EndsAtFault}
use Rattle.run_cli.specs.Short.{IsShort}
use Rattle.run_audit_cli.specs.Verdicts.{audit_status, verdict_line_text}

-- the line of a fault was written, where the sink failed a front part of it, or memory was wanting for that: the status
-- is that of the fault, or of want of memory
abbrev pub EndsWithFault : Writing → Fault → ℕ → Type 0
EndsWithFault w fault status = (said : Fault) × (status ≡ fault_status said) × EndsAtFault w [] fault (Err said)

-- the line of a verdict was written, with its status; or the sink failed, or memory was wanting
abbrev pub EndsWithVerdict : Writing → Verdict → ℕ → Type 0
EndsWithVerdict w verdict status =
    ((status ≡ audit_status verdict) × HasTaken w (line_bytes (verdict_line_text verdict))
    × (w.faults_after ≡ w.faults))
    ⊎ (((status ≡ 9) × HasTakenFront w (line_bytes (verdict_line_text verdict)) × (w.faults ≤ w.faults_after)
    × HasWriteFault w)
    ⊎ ((status ≡ 11) × IsShort (line_bytes (verdict_line_text verdict)) w))
