-- The order of cancel reasons.
use Rattle.std.specs.Prelude.{ℕ, nat_lt, if◌then◌else◌, Option, Some, None}
use Rattle.run_events.specs.declared.cancel.CancelReason.{CancelReason}
use Rattle.run_events.specs.declared.cancel.CancelReason.TheVariants.{SetupScriptFailure, TestFailure, ReportError}
use Rattle.run_events.specs.declared.cancel.CancelReason.TheVariants.{GlobalTimeout, TestFailureImmediate, Signal}
use Rattle.run_events.specs.declared.cancel.CancelReason.TheVariants.{Interrupt, SecondSignal}

-- the rank of a reason: a cause of a higher rank replaces the reason
abbrev pub rank : CancelReason → ℕ
rank SetupScriptFailure = 0
rank TestFailure = 1
rank ReportError = 2
rank GlobalTimeout = 3
rank TestFailureImmediate = 4
rank Signal = 5
rank Interrupt = 6
rank SecondSignal = 7

-- the greater of two reasons, of which either may be missing
abbrev pub greater : Option CancelReason → Option CancelReason → Option CancelReason
greater None cause = cause
greater (Some r) None = Some r
greater (Some r) (Some c) = if nat_lt (rank r) (rank c) then Some c else Some r
