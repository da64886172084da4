-- What an event does to the list of running tests.
use Rattle.std.specs.Prelude.{ℕ, ◌-◌, Bool, true, false, ◌&&◌, Option, None, Some}
use Rattle.std.specs.Str.{bytes_eq}
use Rattle.run_events.specs.declared.events.TestEvent.{TestEvent}
use Rattle.run_events.specs.declared.events.TestEventKind.{TestEventKind}
use Rattle.run_events.specs.declared.events.TestEventKind.TheVariants as kinds
use Rattle.run_events.specs.declared.plan.TestInstanceId.{TestInstanceId}
use Rattle.run_progress.specs.declared.running_test.RunningTestStatus.{RunningTestStatus}
use Rattle.run_progress.specs.declared.running_test.RunningTestStatus.TheVariants as statuses

-- what an event does
pub data Change : Type 0 where
  -- a test starts, is tried again, or waits to be
  starts : TestInstanceId → RunningTestStatus → Change
  finishes : TestInstanceId → Change
  slows : TestInstanceId → Change
  continues : Change
  other : Change

-- the deed of each kind of event
abbrev pub deed_of : TestEventKind → Change
deed_of (kinds.TestStarted e) = starts e.start.test.id statuses.Running
deed_of (kinds.TestAttemptFailedWillRetry e) = starts e.failed.test.id (statuses.Delay e.failed.delay_next)
deed_of (kinds.TestRetryStarted e) = starts e.retry.start.test.id statuses.Retry
deed_of (kinds.TestFinished e) = finishes e.finish.test.id
deed_of (kinds.TestSlow e) = slows e.test.id
deed_of (kinds.RunContinued e) = continues
deed_of _ = other

-- whether a deed puts a test at the end of the list
abbrev pub adds_test : Change → Bool
adds_test (starts test status) = true
adds_test (finishes test) = false
adds_test (slows test) = false
adds_test continues = false
adds_test other = false

-- whether two names are those of one test
abbrev pub is_same : TestInstanceId → TestInstanceId → Bool
is_same a b = bytes_eq a.binary b.binary && bytes_eq a.name b.name

-- whether a deed is the start or the finish of this test
abbrev pub replaces : TestInstanceId → Change → Bool
replaces test (starts id status) = is_same test id
replaces test (finishes id) = is_same test id
replaces test (slows id) = false
replaces test continues = false
replaces test other = false

-- whether a deed is that this test is slow
abbrev pub is_slow_of : TestInstanceId → Change → Bool
is_slow_of test (starts id status) = false
is_slow_of test (finishes id) = false
is_slow_of test (slows id) = is_same test id
is_slow_of test continues = false
is_slow_of test other = false

-- how long the run has been paused in all, where the deed is that the run goes on
abbrev pub paused_where : Change → ℕ → Option ℕ
paused_where (starts id status) paused = None
paused_where (finishes id) paused = None
paused_where (slows id) paused = None
paused_where continues paused = Some paused
paused_where other paused = None

-- how long the run has been paused in all, where an event tells it: the clock less the active time
abbrev pub paused_in : TestEvent → Option ℕ
paused_in event = paused_where (deed_of event.kind) (event.clock - event.elapsed)
