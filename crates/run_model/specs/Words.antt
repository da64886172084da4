-- Words over a history: what each turn did, the newest first.
use Rattle.std.specs.Prelude.{ℕ, ◌+◌, List, [], ◌∷◌, ◌++◌, map, length, drop, Bool, true, false, ◌&&◌, ◌||◌, not, ◌==◌}
use Rattle.std.specs.Prelude.{if◌then◌else◌, Option, Some, None, option_map, option_to_list, filter_map, count_by, zip}
use Rattle.std.specs.Prelude.{is_some}
use Rattle.std.specs.List.{range_with_len, list_any}
use Rattle.run_clock.specs.Counted.{counted_time, is_paused}
use Rattle.run_clock.specs.Sleep.{Sleep, set_at}
use Rattle.run_commands.specs.Interceptor.{disables_timeouts}
use Rattle.run_events.specs.Stats.{FinishedTest, nothing, adds_of, script_adds, total_by, last_or}
use Rattle.run_events.specs.Cancel.{greater}
use Rattle.run_events.specs.declared.stats.RunStats.{RunStats}
use Rattle.run_events.specs.declared.settings.Settings.{Settings}
use Rattle.run_events.specs.declared.turn.Turn.{Turn}
use Rattle.run_events.specs.declared.turn.Turn.TheVariants.{Clock}
use Rattle.run_events.specs.declared.message.Message.{Message}
use Rattle.run_events.specs.declared.message.TestFinish.{TestFinish}
use Rattle.run_events.specs.declared.ask.Ask.{Ask}
use Rattle.run_events.specs.declared.cancel.CancelReason.{CancelReason}
use Rattle.run_events.specs.declared.cancel.CancelReason.TheVariants.{ReportError, GlobalTimeout, Signal, Interrupt}
use Rattle.run_events.specs.declared.cancel.CancelReason.TheVariants.{SecondSignal}
use Rattle.run_events.specs.declared.events.ReporterEvent.{ReporterEvent}
use Rattle.run_events.specs.declared.events.ReporterEvent.TheVariants.{Test}
use Rattle.run_events.specs.declared.events.TestEventKind.{TestEventKind}
use Rattle.run_events.specs.declared.events.TestEventKind.TheVariants.{SetupScriptStarted, SetupScriptFinished}
use Rattle.run_events.specs.declared.events.TestEventKind.TheVariants.{TestStarted, TestFinished, TestSkipped}
use Rattle.run_events.specs.declared.result.ExecuteStatus.{ExecuteStatus}
use Rattle.run_events.specs.declared.result.ExecutionResult.{ExecutionResult}
use Rattle.run_model.specs.declared.happening.Happening.{Happening}
use Rattle.run_model.specs.declared.happening.UnitPart.{UnitPart}
use Rattle.run_model.specs.declared.happening.UnitPart.TheVariants.{Joins, Acts}
use Rattle.run_model.specs.declared.unit_view.UnitView.{UnitView}
use Rattle.run_model.specs.declared.dispatcher_view.Tally.{Tally}
use Rattle.run_model.specs.declared.dispatcher_view.Causes.{Causes}
use Rattle.run_model.specs.Unit.{row, reach}
use Rattle.run_model.specs.Environment.{number}
use Rattle.run_model.specs.Rounds.{run_marks, global_act, timer_after, moves_time}
use Rattle.run_model.specs.Admission.{scripts_in, tests_in, units_in, matched_in}

-- how far a turn moves the clock, in nanoseconds
abbrev pub ns_of : Turn → ℕ
ns_of (Clock ns) = ns
ns_of _ = 0

-- the clock is the sum of what the turns moved it
abbrev pub clock : List Happening → ℕ
clock [] = 0
clock (x ∷ past) = clock past + ns_of x.turn

-- the run's active time: the counted time from its first turn on, and whether a pause of it is open
abbrev pub elapsed : List Happening → ℕ
elapsed past = counted_time 0 (run_marks past) (clock past)

abbrev pub is_run_paused : List Happening → Bool
is_run_paused past = is_paused (run_marks past)

-- a run is over where a turn ended it
abbrev pub is_over : List Happening → Bool
is_over [] = false
is_over (x ∷ past) = x.over || is_over past

-- a turn that begins no sub-run joins the one before it; before the first begin there is none
abbrev pub joined_run : Happening → List Happening → List Happening
joined_run x [] = []
joined_run x (y ∷ run) = x ∷ y ∷ run

-- the newest sub-run: the history from its begin on
abbrev pub sub_run : List Happening → List Happening
sub_run [] = []
sub_run (x ∷ past) = if x.begins then x ∷ [] else joined_run x (sub_run past)

-- a sub-run is on where it has begun and not ended
abbrev pub is_on : List Happening → Bool
is_on [] = false
is_on (x ∷ past) = not x.ends && (x.begins || is_on past)

-- the moment of the latest turn that the dispatcher heard: a begin, an end, a delivery, a cause, a pause or a continue
abbrev pub is_heard : Happening → Bool
is_heard x = x.begins || x.ends || x.taken || is_some x.cause || moves_time x.stops x.told

abbrev pub heard : List Happening → ℕ
heard [] = 0
heard (x ∷ past) = if is_heard x then x.moment else heard past

-- the sub-runs that have ended, each as a history of its own, the newest first
abbrev pub ended_runs : List Happening → List (List Happening)
ended_runs [] = []
ended_runs (x ∷ past) = if x.ends then sub_run (x ∷ past) ∷ ended_runs past else ended_runs past

-- the messages sent, the oldest first
abbrev pub sent : List Happening → List Message
sent [] = []
sent (x ∷ past) = sent past ++ option_to_list x.sent

-- how many messages were delivered
abbrev pub delivered : List Happening → ℕ
delivered [] = 0
delivered (x ∷ past) = delivered past + (if x.taken then 1 else 0)

-- the messages that wait: the nth delivery takes the nth message
abbrev pub queue : List Happening → List Message
queue past = drop (delivered past) (sent past)

-- the events that a turn told: its own, and then what it told after that
abbrev pub events_in : Happening → List ReporterEvent
events_in x = option_to_list x.told ++ option_to_list x.after

-- the events told, in order
abbrev pub told : List Happening → List ReporterEvent
told [] = []
told (x ∷ past) = told past ++ events_in x

-- the events told, each with whether the reporter refused it
abbrev pub answers : List Happening → List (ReporterEvent × Bool)
answers [] = []
answers (x ∷ past) = answers past ++ zip (events_in x) x.refused

-- what was asked, each with the turn that asked it, counted from 0
abbrev pub asked : List Happening → List (ℕ × Ask)
asked [] = []
asked (x ∷ past) = asked past ++ map (λ ask. (length past, ask)) (option_to_list x.asked)

-- the reason for which a run is cancelled: the greatest of its causes
abbrev pub reason : List Happening → Option CancelReason
reason [] = None
reason (x ∷ past) = greater (reason past) x.cause

-- whether the reporter refused an event
abbrev pub was_refused : List Happening → Bool
was_refused [] = false
was_refused (x ∷ past) = list_any (λ refused. refused) x.refused || was_refused past

-- how many causes of a run were signals; whether one was that an event was refused
abbrev pub is_by_signal : Option CancelReason → Bool
is_by_signal (Some Signal) = true
is_by_signal (Some Interrupt) = true
is_by_signal (Some SecondSignal) = true
is_by_signal _ = false

abbrev pub is_by_report : Option CancelReason → Bool
is_by_report (Some ReportError) = true
is_by_report _ = false

abbrev pub is_by_time : Option CancelReason → Bool
is_by_time (Some GlobalTimeout) = true
is_by_time _ = false

abbrev pub signals_heard : List Happening → ℕ
signals_heard past = count_by (λ x. is_by_signal x.cause) past

abbrev pub was_reported : List Happening → Bool
was_reported past = list_any (λ x. is_by_report x.cause) past

-- how long a sub-run may take, if that has a limit: it has none under an interceptor
abbrev pub time_limit : Settings → Option ℕ
time_limit p = if disables_timeouts p.interceptor then None else p.plan.global_timeout

-- the timer of a sub-run: it is set where that begins, pauses with the runner, and is gone once it was due
abbrev pub armed : ℕ → Option ℕ → Option Sleep
armed now None = None
armed now (Some duration) = Some (set_at now duration)

abbrev pub global_timer : Settings → List Happening → Option Sleep
global_timer p [] = None
global_timer p (x ∷ past) =
    if x.begins then armed x.moment (time_limit p)
    else if is_by_time x.cause then None
    else timer_after x.moment (global_act x.stops x.told) (global_timer p past)

-- what came by now that cancels a run
abbrev pub causes_of : Settings → List Happening → Causes
causes_of p past = record {
  signals = signals_heard past;
  reported = was_reported past;
  global = global_timer p past;
}

-- a unit after a turn in which one had this part: an admitted unit begins, and a turn of the unit's own is a row of the
-- unit table
abbrev pub unit_after : ℕ → ℕ → Option UnitPart → Option UnitView → Option UnitView
unit_after now k None u = u
unit_after now k (Some (Joins first)) u = if number first == k then Some first else u
unit_after now k (Some (Acts j turn)) u = if j == k then option_map (λ v. (row now turn v).next) u else u

-- a unit stands where the unit table leads along its own turns, and has the requests in its line that were broadcast;
-- None is a unit that wasn't admitted
abbrev pub unit_of : ℕ → List Happening → Option UnitView
unit_of k [] = None
unit_of k (x ∷ past) = reach x.request (unit_after x.moment k x.part (unit_of k past))

-- all units, by number
abbrev pub units : Settings → List Happening → List (Option UnitView)
units p past = map (λ k. unit_of k past) (range_with_len 0 (units_in p))

-- whether the last attempt was slow
abbrev pub last_slow : List ExecuteStatus → Bool
last_slow statuses = last_or false (map (λ s. s.slow) statuses)

-- a finished test, as the statistics count it
abbrev pub finished_test : TestFinish → FinishedTest
finished_test finish = record {
  results = map (λ s. s.result) finish.statuses;
  slow = last_slow finish.statuses;
  flaky = finish.flaky;
}

-- a finished unit, as the statistics count it: a test, or a script by its result
pub data FinishedUnit : Type 0 where
  a_test : FinishedTest → FinishedUnit
  a_script : ExecutionResult → FinishedUnit

abbrev pub adds_by : FinishedUnit → RunStats
adds_by (a_test test) = adds_of test
adds_by (a_script result) = script_adds result

abbrev pub finish_in : TestEventKind → Option FinishedUnit
finish_in (TestFinished event) = Some (a_test (finished_test event.finish))
finish_in (SetupScriptFinished event) = Some (a_script event.status.result)
finish_in _ = None

abbrev pub finish_of : ReporterEvent → Option FinishedUnit
finish_of (Test event) = finish_in event.kind
finish_of _ = None

-- the scripts and tests told finished, in order
abbrev pub finished : List Happening → List FinishedUnit
finished past = filter_map finish_of (told past)

-- whether an event tells a skipped test
abbrev pub skips_in : TestEventKind → Bool
skips_in (TestSkipped skip) = true
skips_in _ = false

abbrev pub skips : ReporterEvent → Bool
skips (Test event) = skips_in event.kind
skips _ = false

-- how often a number is among some
abbrev pub times : ℕ → List ℕ → ℕ
times k ns = count_by (λ n. n == k) ns

-- how many tests were told skipped
abbrev pub skipped : List Happening → ℕ
skipped past = count_by skips (told past)

-- the statistics before any skip and finish: the numbers of scripts and of tests to run
abbrev pub initial_stats : Settings → RunStats
initial_stats p = record nothing { initial_run_count = matched_in p; setup_scripts_initial_count = scripts_in p }

-- the statistics after so many skips and these finishes: a count of each kind over them, beside the numbers of scripts
-- and of tests to run and the reason
abbrev pub stats_after : Settings → Option CancelReason → ℕ → List FinishedUnit → RunStats
stats_after p why skips finishes =
    total_by adds_by (record (initial_stats p) { skipped = skips; cancel_reason = why }) finishes

-- the statistics of a run
abbrev pub stats : Settings → List Happening → RunStats
stats p past = stats_after p (reason past) (skipped past) (finished past)

-- whether an event tells the start, or the finish, of unit k
abbrev pub starts_in : ℕ → TestEventKind → Bool
starts_in k (SetupScriptStarted event) = event.script.unit == k
starts_in k (TestStarted event) = event.start.test.unit == k
starts_in k _ = false

abbrev pub starts : ℕ → ReporterEvent → Bool
starts k (Test event) = starts_in k event.kind
starts k _ = false

abbrev pub finishes_in : ℕ → TestEventKind → Bool
finishes_in k (SetupScriptFinished event) = event.script.unit == k
finishes_in k (TestFinished event) = event.finish.test.unit == k
finishes_in k _ = false

abbrev pub finishes : ℕ → ReporterEvent → Bool
finishes k (Test event) = finishes_in k event.kind
finishes k _ = false

-- a unit runs where it was told started and not told finished
abbrev pub is_running : List ReporterEvent → ℕ → Bool
is_running events k = list_any (starts k) events && not (list_any (finishes k) events)

-- how many scripts run, and how many tests: units are numbered scripts first
abbrev pub scripts_running : Settings → List Happening → ℕ
scripts_running p past = count_by (is_running (told past)) (range_with_len 0 (scripts_in p))

abbrev pub running : Settings → List Happening → ℕ
running p past = count_by (is_running (told past)) (range_with_len (scripts_in p) (tests_in p))

-- what a dispatcher counts
abbrev pub tally : Settings → List Happening → Tally
tally p past = record {
  running = running p past;
  scripts_running = scripts_running p past;
  stats = stats p past;
}
