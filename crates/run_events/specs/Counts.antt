-- When a reporter may refuse an event.
use Rattle.std.specs.Prelude.{ℕ, ◌≡◌, ◌≤◌, Result, Ok, Err}
use Rattle.run_capture.specs.Faults.{Rose}
use Rattle.run_events.specs.declared.reporter.ReportFault.{ReportFault}
use Rattle.run_events.specs.declared.reporter.ReportFault.TheVariants.{Refused, OutOfMemory}

-- an event is refused exactly where the count of faults rose
abbrev pub CountsRefusal : {T E : Type 0} → ℕ → ℕ → Result T (ReportFault E) → Type 0
CountsRefusal before now (Ok _) = now ≡ before
CountsRefusal before now (Err (Refused _)) = (before ≤ now) × Rose before now
CountsRefusal before now (Err OutOfMemory) = now ≡ before
