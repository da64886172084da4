-- How the program of stores ends where it has a fault.
use Rattle.std.specs.Prelude.{ℕ, ◌≡◌, ◌⊎◌, ◌≤◌, List, ◌++◌}
use Rattle.run_output.specs.declared.fault.Fault.{Fault}
use Rattle.run_output.specs.Faults.{fault_status}
use Rattle.run_output.specs.Fields.{line_bytes}
use Rattle.run_store_io.specs.declared.fault_lines.StoreFault.{StoreFault}
use Rattle.run_store_io.specs.FaultLines.{store_fault_text, store_fault_status}
use Rattle.run_cli.specs.Call.{Writing, Writes}
use Rattle.run_cli.specs.Short.{IsShort}
use Rattle.run_cli.specs.Text.{fault_only}

-- the line of a fault was written, where the sink failed a front part of it; or memory was wanting
abbrev pub EndsSo : Writing → Fault → ℕ → Type 0
EndsSo w fault status =
    ((status ≡ 11) × IsShort (fault_only fault) w)
    ⊎ ((status ≡ fault_status fault) × (w.faults ≤ w.faults_after) × Writes w (fault_only fault))

-- the line of a fault of a store
abbrev pub store_fault_only : StoreFault → List ℕ
store_fault_only fault = line_bytes (store_fault_text fault)

-- lines of asks and of a fault of a store were written, where the sink failed a front part of them; or memory was
-- wanting
abbrev pub EndsAtStore : Writing → List ℕ → StoreFault → ℕ → Type 0
EndsAtStore w asks fault status =
    ((status ≡ 11) × IsShort (asks ++ store_fault_only fault) w)
    ⊎ ((status ≡ store_fault_status fault) × (w.faults ≤ w.faults_after) × Writes w (asks ++ store_fault_only fault))
