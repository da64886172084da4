-- When a write fails.
use Rattle.std.specs.Prelude.{ℕ, ◌≡◌, ◌≤◌, Result, Ok, Err}
use Rattle.run_capture.specs.Faults.{Rose}
use Rattle.run_cli.specs.declared.write.WriteError.{WriteError}
use Rattle.run_cli.specs.declared.write.WriteError.TheVariants.{Failed, OutOfMemory}

-- a write fails exactly where the sink's count of faults rose
abbrev pub CountsWrite : {T : Type 0} → ℕ → ℕ → Result T WriteError → Type 0
CountsWrite before now (Ok _) = now ≡ before
CountsWrite before now (Err Failed) = (before ≤ now) × Rose before now
CountsWrite before now (Err OutOfMemory) = now ≡ before
