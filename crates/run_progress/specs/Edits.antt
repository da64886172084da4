-- What one more event changes of what was seen.
use Rattle.std.specs.Prelude.{ℕ, ◌+◌, ◌-◌, ◌^◌, min, not, if◌then◌else◌, List, [], ◌∷◌, ◌++◌, filter, map, unwrap_or}
use Rattle.run_events.specs.declared.events.TestEvent.{TestEvent}
use Rattle.run_events.specs.declared.events.TestEventKind.{TestEventKind}
use Rattle.run_events.specs.declared.plan.TestInstanceId.{TestInstanceId}
use Rattle.run_progress.specs.declared.max_running.MaxProgressRunning.{MaxProgressRunning}
use Rattle.run_progress.specs.declared.running_test.RunningTest.{RunningTest}
use Rattle.run_progress.specs.declared.running_test.RunningTestStatus.TheVariants as statuses
use Rattle.run_progress.specs.declared.seen.Hiding.{Hiding}
use Rattle.run_progress.specs.declared.seen.Seen.{Seen}
use Rattle.run_progress.specs.Deeds.{Change, starts, finishes, slows, continues, other, deed_of, is_same, paused_in}
use Rattle.run_progress.specs.Seen.{counts_in, script_in, pause_in, info_in, shows_tests}

-- all tests but this one
abbrev pub without : TestInstanceId → List RunningTest → List RunningTest
without id tests = filter (λ running. not (is_same running.test id)) tests

-- a test that is slow where it is this one
abbrev pub slowed : TestInstanceId → RunningTest → RunningTest
slowed id running = if is_same running.test id then record running { status = statuses.Slow } else running

-- a test after one more pause, whose pauses come to the greatest u64 at most
abbrev pub paused_more : ℕ → RunningTest → RunningTest
paused_more pause running = record running { paused = min (running.paused + pause) (2 ^ 64 - 1) }

-- the running tests after a deed at this moment, where a pause of this length ends
abbrev pub edited_by : Change → ℕ → ℕ → List RunningTest → List RunningTest
edited_by (starts id status) now pause tests =
    without id tests ++ record { test = id; status = status; start = now; paused = 0 } ∷ []
edited_by (finishes id) now pause tests = without id tests
edited_by (slows id) now pause tests = map (slowed id) tests
edited_by continues now pause tests = map (paused_more pause) tests
edited_by other now pause tests = tests

-- the running tests after an event, where the run had been paused for so long before
abbrev pub edited : ℕ → TestEvent → List RunningTest → List RunningTest
edited before event tests = edited_by (deed_of event.kind) event.clock (event.clock - event.elapsed - before) tests

-- what hides the display after an event
abbrev pub hiding_after : TestEventKind → Hiding → Hiding
hiding_after kind hiding = record {
  script = unwrap_or (script_in kind) hiding.script;
  pause = unwrap_or (pause_in kind) hiding.pause;
  info = unwrap_or (info_in kind) hiding.info;
}

-- what was seen after an event
unfoldable pub seen_after : MaxProgressRunning → Seen → TestEvent → Seen
seen_after max seen event = record {
  tests = if shows_tests max then edited seen.paused event seen.tests else seen.tests;
  counts = unwrap_or (counts_in event.kind) seen.counts;
  paused = unwrap_or (paused_in event) seen.paused;
  hiding = hiding_after event.kind seen.hiding;
}
