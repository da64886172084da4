-- The running tests of a told list, which is in the order in which its events were told.
use Rattle.std.specs.Prelude.{ℕ, ◌+◌, ◌-◌, ◌^◌, min, Bool, if◌then◌else◌, List, [], ◌∷◌, ◌++◌, unwrap_or}
use Rattle.std.specs.List.{filter_map, list_any}
use Rattle.run_events.specs.declared.events.TestEvent.{TestEvent}
use Rattle.run_events.specs.declared.plan.TestInstanceId.{TestInstanceId}
use Rattle.run_progress.specs.declared.running_test.RunningTest.{RunningTest}
use Rattle.run_progress.specs.declared.running_test.RunningTestStatus.{RunningTestStatus}
use Rattle.run_progress.specs.declared.running_test.RunningTestStatus.TheVariants as statuses
use Rattle.run_progress.specs.Deeds.{Change, starts, finishes, slows, continues, other, deed_of, replaces, is_slow_of}
use Rattle.run_progress.specs.Deeds.{paused_in}

-- whether a test starts again or finishes in these events
abbrev pub is_replaced : TestInstanceId → List TestEvent → Bool
is_replaced test later = list_any (λ event. replaces test (deed_of event.kind)) later

-- whether a test is told slow in these events
abbrev pub is_told_slow : TestInstanceId → List TestEvent → Bool
is_told_slow test later = list_any (λ event. is_slow_of test (deed_of event.kind)) later

-- the pauses that end, from how long the run has been paused in all before them and after each
abbrev pub pauses : ℕ → List ℕ → ℕ
pauses before [] = 0
pauses before (now ∷ rest) = (now - before) + pauses now rest

-- a test that started at this moment, after the run had been paused for so long in all, and what was told since
abbrev pub running_test : TestInstanceId → RunningTestStatus → ℕ → ℕ → List TestEvent → RunningTest
running_test test status start before later = record {
  test = test;
  status = if is_told_slow test later then statuses.Slow else status;
  start = start;
  paused = min (pauses before (filter_map paused_in later)) (2 ^ 64 - 1);
}

-- the test that starts by this deed, at this moment, unless it starts again or finishes later
abbrev pub started_by : Change → ℕ → ℕ → List TestEvent → List RunningTest
started_by (starts test status) start before later =
    if is_replaced test later then [] else running_test test status start before later ∷ []
started_by (finishes test) start before later = []
started_by (slows test) start before later = []
started_by continues start before later = []
started_by other start before later = []

-- the tests whose last start has no finish after it, in the order of their last starts, where the run had been
-- paused for so long before
abbrev pub running_after : ℕ → List TestEvent → List RunningTest
running_after before [] = []
running_after before (event ∷ later) =
    let paused = unwrap_or (paused_in event) before in
    started_by (deed_of event.kind) event.clock paused later ++ running_after paused later

-- the running tests of a told list
unfoldable pub display : List TestEvent → List RunningTest
display told = running_after 0 told
