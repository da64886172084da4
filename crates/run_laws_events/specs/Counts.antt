-- The counts and statistics that events say.
use Rattle.std.specs.Prelude.{ℕ, ◌≡◌, List, [], ◌∷◌, ◌++◌, Option, Some, None, IfSome, count_by, filter_map}
use Rattle.std.specs.Prelude.{option_to_list}
use Rattle.std.specs.List.{range_with_len}
use Rattle.run_events.specs.declared.cancel.CancelReason.{CancelReason}
use Rattle.run_events.specs.declared.settings.Settings.{Settings}
use Rattle.run_events.specs.declared.stats.RunStats.{RunStats}
use Rattle.run_events.specs.declared.events.ReporterEvent.{ReporterEvent}
use Rattle.run_events.specs.declared.events.ReporterEvent.TheVariants.{Test}
use Rattle.run_events.specs.declared.events.RunFinishedStats.{RunFinishedStats}
use Rattle.run_events.specs.declared.events.RunFinishedStats.TheVariants.{Single, Stress}
use Rattle.run_events.specs.declared.events.TestEventKind.{TestEventKind}
use Rattle.run_events.specs.declared.events.TestEventKind.TheVariants.{StressSubRunFinished, TestStarted, TestFinished}
use Rattle.run_events.specs.declared.events.TestEventKind.TheVariants.{TestAttemptFailedWillRetry, TestRetryStarted}
use Rattle.run_events.specs.declared.events.TestEventKind.TheVariants.{InfoStarted, InputEnter, RunBeginCancel}
use Rattle.run_events.specs.declared.events.TestEventKind.TheVariants.{RunBeginKill, RunPaused, RunContinued}
use Rattle.run_events.specs.declared.events.TestEventKind.TheVariants.{RunFinished}
use Rattle.run_model.specs.declared.entry.Entry.{Entry}
use Rattle.run_model.specs.declared.happening.Happening.{Happening}
use Rattle.run_model.specs.Words.{finish_of, skips, stats_after, is_running, reason, sub_run, told}
use Rattle.run_model.specs.Admission.{scripts_in, tests_in}
use Rattle.run_model.specs.Turns.{happening}
use Rattle.run_model.specs.Journal.{IsLegal, past_of}

-- how many tests an event says to run, if it says that
abbrev pub running_said_in : TestEventKind → Option ℕ
running_said_in (TestStarted event) = Some event.running
running_said_in (TestAttemptFailedWillRetry event) = Some event.running
running_said_in (TestRetryStarted event) = Some event.running
running_said_in (TestFinished event) = Some event.running
running_said_in (InfoStarted event) = Some event.running
running_said_in (InputEnter event) = Some event.running
running_said_in (RunBeginCancel event) = Some event.running
running_said_in (RunBeginKill event) = Some event.running
running_said_in (RunPaused event) = Some event.running
running_said_in (RunContinued event) = Some event.running
running_said_in _ = None

abbrev pub running_said : ReporterEvent → Option ℕ
running_said (Test event) = running_said_in event.kind
running_said _ = None

-- how many setup scripts an event says to run, if it says that
abbrev pub scripts_said_in : TestEventKind → Option ℕ
scripts_said_in (RunBeginCancel event) = Some event.scripts_running
scripts_said_in (RunBeginKill event) = Some event.scripts_running
scripts_said_in (RunPaused event) = Some event.scripts_running
scripts_said_in (RunContinued event) = Some event.scripts_running
scripts_said_in _ = None

abbrev pub scripts_said : ReporterEvent → Option ℕ
scripts_said (Test event) = scripts_said_in event.kind
scripts_said _ = None

-- the statistics of the sub-run that an event says, if it says any: at the end of a stress run they are those of its
-- sub-runs
abbrev pub single_of : RunFinishedStats → Option RunStats
single_of (Single stats) = Some stats
single_of (Stress stats) = None

abbrev pub stats_said_in : TestEventKind → Option RunStats
stats_said_in (StressSubRunFinished event) = Some event.stats
stats_said_in (TestStarted event) = Some event.stats
stats_said_in (TestFinished event) = Some event.stats
stats_said_in (InfoStarted event) = Some event.stats
stats_said_in (InputEnter event) = Some event.stats
stats_said_in (RunBeginCancel event) = Some event.stats
stats_said_in (RunBeginKill event) = Some event.stats
stats_said_in (RunFinished event) = single_of event.stats
stats_said_in _ = None

abbrev pub stats_said : ReporterEvent → Option RunStats
stats_said (Test event) = stats_said_in event.kind
stats_said _ = None

-- how many tests of the plan were told started and not told finished in these events, and how many setup scripts
abbrev pub running_tests : Settings → List ReporterEvent → ℕ
running_tests p events = count_by (is_running events) (range_with_len (scripts_in p) (tests_in p))

abbrev pub running_scripts : Settings → List ReporterEvent → ℕ
running_scripts p events = count_by (is_running events) (range_with_len 0 (scripts_in p))

-- the statistics of these events, with this reason: a count of each kind over the skips and finishes that they tell
abbrev pub stats_of_events : Settings → Option CancelReason → List ReporterEvent → RunStats
stats_of_events p why events = stats_after p why (count_by skips events) (filter_map finish_of events)

-- what an event says of the run is what these events come to, of which it is the last, with this reason
pub record SaysCounts (p : Settings) (why : Option CancelReason) (events : List ReporterEvent) (event : ReporterEvent)
    : Type 0 where
  pub running : IfSome (running_said event) (λ n. n ≡ running_tests p events)
  pub scripts : IfSome (scripts_said event) (λ n. n ≡ running_scripts p events)
  pub stats : IfSome (stats_said event) (λ s. s ≡ stats_of_events p why events)

-- what a turn after others of its sub-run tells says the counts up to and with it: its own event with the reason of
-- the causes before it, and the event that comes last with that of all causes up to and with it
pub record TellsCounts (p : Settings) (before : List Happening) (x : Happening) : Type 0 where
  pub own : IfSome x.told (SaysCounts p (reason before) (told before ++ option_to_list x.told))
  pub cause : IfSome x.after (SaysCounts p (reason (x ∷ before)) (told (x ∷ before)))

-- that holds of each turn of every legal journal
abbrev pub EventsSayCounts : Type 0
EventsSayCounts = (p : Settings) (journal : List Entry) (e : Entry) → IsLegal p (journal ++ e ∷ [])
    → TellsCounts p (sub_run (past_of p journal)) (happening p (past_of p journal) e)
