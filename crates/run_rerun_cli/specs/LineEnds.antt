-- How the program of reruns ends with a line.
use Rattle.std.specs.Prelude.{ℕ, ◌≡◌, ◌⊎◌, ◌≤◌, List, take}
use Rattle.run_cli.specs.Call.{Writing, HasTaken, HasTakenFront, HasWriteFault}
use Rattle.run_cli.specs.Short.{IsShort}
use Rattle.run_cli.specs.Text.{fault_only}
use Rattle.run_output.specs.declared.fault.Fault.TheVariants.{Memory}

-- this text was written, with the first status; or the sink failed, and took a front part of it, and not all, with the
-- second status; or memory was wanting, and a front part went out, but not all, and then that line
abbrev pub EndsWith : Writing → List ℕ → ℕ → ℕ → ℕ → Type 0
EndsWith w text written failed status =
    ((status ≡ written) × HasTaken w text × (w.faults_after ≡ w.faults))
    ⊎ (((status ≡ failed) × HasTakenFront w text × (w.faults ≤ w.faults_after) × HasWriteFault w)
    ⊎ ((status ≡ 11) × IsShort text w))

-- memory was wanting before there was a line, and the line of that was written, as far as the sink took it
abbrev pub EndsEarly : Writing → ℕ → Type 0
EndsEarly w status = (status ≡ 11) × ((said : ℕ) × HasTaken w (take said (fault_only Memory)))
