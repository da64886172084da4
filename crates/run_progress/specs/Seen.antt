-- What a told list comes to, as a display sees it.
use Rattle.std.specs.Prelude.{◌==◌, Bool, true, false, ◌||◌, not, if◌then◌else◌, List, [], Option, None, Some}
use Rattle.std.specs.List.{filter_map}
use Rattle.run_events.specs.declared.events.TestEvent.{TestEvent}
use Rattle.run_events.specs.declared.events.TestEventKind.{TestEventKind}
use Rattle.run_events.specs.declared.events.TestEventKind.TheVariants as kinds
use Rattle.run_events.specs.Stats.{last_or, nothing}
use Rattle.run_progress.specs.declared.max_running.MaxProgressRunning.{MaxProgressRunning}
use Rattle.run_progress.specs.declared.max_running.MaxProgressRunning.TheVariants.{Count, Infinite}
use Rattle.run_progress.specs.declared.seen.Counts.{Counts}
use Rattle.run_progress.specs.declared.seen.Hiding.{Hiding}
use Rattle.run_progress.specs.declared.seen.Seen.{Seen}
use Rattle.run_progress.specs.Deeds.{paused_in}
use Rattle.run_progress.specs.Display.{display}

-- the counts that an event tells
abbrev pub counts_in : TestEventKind → Option Counts
counts_in (kinds.TestStarted e) = Some (record { running = e.running; stats = e.stats })
counts_in (kinds.TestFinished e) = Some (record { running = e.running; stats = e.stats })
counts_in (kinds.RunBeginCancel e) = Some (record { running = e.running; stats = e.stats })
counts_in (kinds.RunBeginKill e) = Some (record { running = e.running; stats = e.stats })
counts_in _ = None

-- whether a script that isn't captured runs from here on
abbrev pub script_in : TestEventKind → Option Bool
script_in (kinds.SetupScriptStarted e) = if e.script.no_capture then Some true else None
script_in (kinds.SetupScriptFinished e) = if e.script.no_capture then Some false else None
script_in _ = None

-- whether the run is paused from here on
abbrev pub pause_in : TestEventKind → Option Bool
pause_in (kinds.RunPaused e) = Some true
pause_in (kinds.RunContinued e) = Some false
pause_in _ = None

-- whether an information round is on from here on
abbrev pub info_in : TestEventKind → Option Bool
info_in (kinds.InfoStarted e) = Some true
info_in (kinds.InfoFinished missing) = Some false
info_in _ = None

-- the last that a told list tells of something, and another where it tells nothing of it
abbrev pub last_told : {X : Type 0} → X → (TestEvent → Option X) → List TestEvent → X
last_told other tells told = last_or other (filter_map tells told)

-- before any event
abbrev pub no_counts : Counts
no_counts = record { running = 0; stats = nothing }

-- what hides the display
abbrev pub hiding : List TestEvent → Hiding
hiding told = record {
  script = last_told false (λ event. script_in event.kind) told;
  pause = last_told false (λ event. pause_in event.kind) told;
  info = last_told false (λ event. info_in event.kind) told;
}

-- whether anything does
abbrev pub is_hidden : Hiding → Bool
is_hidden hiding = hiding.script || hiding.pause || hiding.info

-- whether running tests are shown at all
abbrev pub shows_tests : MaxProgressRunning → Bool
shows_tests (Count n) = not (n == 0)
shows_tests Infinite = true

-- what a told list comes to: the running tests where they are shown, the counts told last, how long the run had been
-- paused when it went on last, and what hides the display
unfoldable pub seen_of : MaxProgressRunning → List TestEvent → Seen
seen_of max told = record {
  tests = if shows_tests max then display told else [];
  counts = last_told no_counts (λ event. counts_in event.kind) told;
  paused = last_told 0 paused_in told;
  hiding = hiding told;
}
