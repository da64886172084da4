-- What a pass after a failed attempt counts as, by the counts that events tell.
use Rattle.std.specs.Prelude.{ℕ, ◌≡◌, nat_lt, if◌then◌else◌, List, [], ◌∷◌}
use Rattle.run_events.specs.declared.events.ReporterEvent.{ReporterEvent}
use Rattle.run_events.specs.declared.events.ReporterEvent.TheVariants.{Tick, Test}
use Rattle.run_events.specs.declared.events.TestEventKind.{TestEventKind}
use Rattle.run_events.specs.declared.events.TestEventKind.TheVariants as kinds
use Rattle.run_events.specs.declared.result.FlakyResult.{FlakyResult}
use Rattle.run_events.specs.declared.result.FlakyResult.TheVariants.{Pass, Fail}

-- how many tests have failed in a run, or in a sub-run, after an event, of so many before it
abbrev pub failed_after_kind : ℕ → TestEventKind → ℕ
failed_after_kind failed (kinds.TestFinished told) = told.stats.failed
failed_after_kind failed (kinds.StressSubRunStarted so_far) = 0
failed_after_kind failed _ = failed

abbrev pub failed_after : ℕ → ReporterEvent → ℕ
failed_after failed Tick = failed
failed_after failed (Test event) = failed_after_kind failed event.kind

-- after events
abbrev pub failed_after_all : ℕ → List ReporterEvent → ℕ
failed_after_all failed [] = failed
failed_after_all failed (event ∷ events) = failed_after_all (failed_after failed event) events

-- what a pass after a failed attempt counts as: a failure exactly where more tests have failed than before
abbrev pub counted_flaky : ℕ → ℕ → FlakyResult
counted_flaky before now = if nat_lt before now then Fail else Pass

-- an event says so, where so many had failed before it
abbrev pub IsCountedKind : ℕ → TestEventKind → Type 0
IsCountedKind failed (kinds.TestFinished told) = told.finish.flaky ≡ counted_flaky failed told.stats.failed
IsCountedKind failed _ = Unit {0}

abbrev pub IsCounted : ℕ → ReporterEvent → Type 0
IsCounted failed Tick = Unit {0}
IsCounted failed (Test event) = IsCountedKind failed event.kind

-- each of these events does
abbrev pub AreAllCounted : ℕ → List ReporterEvent → Type 0
AreAllCounted failed [] = Unit {0}
AreAllCounted failed (event ∷ events) = IsCounted failed event × AreAllCounted (failed_after failed event) events
