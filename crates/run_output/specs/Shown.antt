-- What a reporter of progress writes: at each tick that isn't hidden, the text of a display.
use Rattle.std.specs.Prelude.{ℕ, ◌≡◌, ◌+◌, nat_lt, if◌then◌else◌, List, [], ◌∷◌, ◌++◌, length, map, zip, slice_get}
use Rattle.std.specs.Prelude.{unwrap_or}
use Rattle.std.specs.Prelude.{Bool, Option}
use Rattle.run_events.specs.declared.events.ReporterEvent.{ReporterEvent}
use Rattle.run_events.specs.declared.events.ReporterEvent.TheVariants.{Tick, Test}
use Rattle.run_events.specs.declared.events.TestEvent.{TestEvent}
use Rattle.run_events.specs.declared.retry_policy.RunMode.{RunMode}
use Rattle.run_progress.specs.declared.lines.Showing.{Showing}
use Rattle.run_progress.specs.declared.max_running.MaxProgressRunning.{MaxProgressRunning}
use Rattle.run_progress.specs.declared.seen.Seen.{Seen}
use Rattle.run_progress.specs.Lines.{tick_of, shown_after}
use Rattle.run_progress.specs.Progress.{StandsFor}
use Rattle.run_progress.specs.Seen.{hiding, is_hidden, seen_of}
use Rattle.run_output.specs.Fields.{line_bytes}
use Rattle.run_output.specs.Told.{HasTold}
use Rattle.run_output.specs.declared.watcher.Watcher.{Watcher}

-- a display on a terminal of a width: how it shows, what it was told, at what clocks the ticks come, and how many came
pub record Screen : Type 0 where
  pub width : ℕ
  pub showing : Showing
  pub told : List TestEvent
  pub clocks : List ℕ
  pub ticks : ℕ

-- what it has seen, whether it is hidden, and the clock of the tick that comes next
abbrev pub seen_in : Screen → Seen
seen_in w = seen_of w.showing.max w.told

abbrev pub is_hidden_in : Screen → Bool
is_hidden_in w = is_hidden (hiding w.told)

abbrev pub now_in : Screen → ℕ
now_in w = unwrap_or (slice_get w.clocks w.ticks) 0

-- the line of an event: at a tick that isn't hidden the display's text, and else nothing
abbrev pub line_in : Screen → ReporterEvent → List ℕ
line_in w Tick = if is_hidden_in w then [] else line_bytes (tick_of w.showing (seen_in w) (now_in w) w.width)
line_in w (Test event) = []

-- how many ticks came, after one more
abbrev pub next_tick : List ℕ → ℕ → ℕ
next_tick clocks ticks = if nat_lt ticks (length clocks) then ticks + 1 else ticks

-- the display after the text of a tick, after a tick, and after any event
abbrev pub shown_in : Screen → Screen
shown_in w = record w {
  showing = if is_hidden_in w then w.showing else shown_after w.showing (seen_in w) (now_in w) w.width;
}

abbrev pub after_tick : Screen → Screen
after_tick w = record (shown_in w) { ticks = next_tick w.clocks w.ticks }

abbrev pub screen_after : Screen → ReporterEvent → Screen
screen_after w Tick = after_tick w
screen_after w (Test event) = record w { told = w.told ++ event ∷ [] }

abbrev pub screen_after_all : Screen → List ReporterEvent → Screen
screen_after_all w [] = w
screen_after_all w (event ∷ events) = screen_after_all (screen_after w event) events

-- the lines of events in order, one for each
abbrev pub lines_in : Screen → List ReporterEvent → List (List ℕ)
lines_in w [] = []
lines_in w (event ∷ events) = line_in w event ∷ lines_in (screen_after w event) events

-- a display that was told nothing
abbrev pub first_screen : RunMode → MaxProgressRunning → ℕ → List ℕ → Screen
first_screen mode max width clocks = record {
  width = width;
  showing = record { mode = mode; max = max; most_lines = 0 };
  told = [];
  clocks = clocks;
  ticks = 0;
}

-- the display of a watcher that was told nothing
abbrev pub screen_of : Watcher → Screen
screen_of r = record {
  width = r.width;
  showing = r.state.showing;
  told = [];
  clocks = r.clocks;
  ticks = r.ticks;
}

-- a watcher stands for this display
pub record IsScreen (r : Watcher) (w : Screen) : Type 0 where
  pub width : r.width ≡ w.width
  pub showing : r.state.showing ≡ w.showing
  pub stands : StandsFor w.told r.state
  pub clocks : r.clocks ≡ w.clocks
  pub ticks : r.ticks ≡ w.ticks

-- the events of answers, and the errors
abbrev pub events_of : {E : Type 0} → List (ReporterEvent × Option E) → List ReporterEvent
events_of answers = map (λ answer. answer.0) answers

abbrev pub answer_errors : {E : Type 0} → List (ReporterEvent × Option E) → List (Option E)
answer_errors answers = map (λ answer. answer.1) answers

-- the lines of events, each with the error that refused its event, or none
abbrev pub shown_lines : {E : Type 0} → Screen → List (ReporterEvent × Option E) → List (List ℕ × Option E)
shown_lines w answers = zip (lines_in w (events_of answers)) (answer_errors answers)

-- a reporter of progress that began with this display has told these events
pub record HasShown {E : Type 0} (start : Screen) (watcher : Watcher) (before now : Option (List ℕ))
    (faults faults_now refusals : ℕ) (answers : List (ReporterEvent × Option E)) : Type 0 where
  pub written : HasTold before now faults faults_now refusals (shown_lines start answers)
  pub screen : IsScreen watcher (screen_after_all start (events_of answers))
