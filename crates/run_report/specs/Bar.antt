-- A bar at the end of a terminal.
use Rattle.std.specs.Prelude.{ℕ, zero, suc, ◌≡◌, ◌==◌, if◌then◌else◌, Bool, false, List, [], ◌∷◌, ◌++◌, codes}
use Rattle.std.specs.Prelude.{Option, None, Some}
use Rattle.std.specs.List.{count_by, filter_map, flat_map}
use Rattle.std.specs.Str.{chars}
use Rattle.run_capture.specs.Bytes.{Takes}
use Rattle.run_capture.specs.Faults.{RoseExactlyIf}
use Rattle.run_events.specs.declared.events.ReporterEvent.{ReporterEvent}
use Rattle.run_events.specs.declared.events.ReporterEvent.TheVariants.{Tick, Test}
use Rattle.run_events.specs.declared.events.TestEvent.{TestEvent}
use Rattle.run_progress.specs.Lines.{tick_of}
use Rattle.run_progress.specs.Progress.{Progress, StandsFor}
use Rattle.run_progress.specs.Seen.{is_hidden}
use Rattle.run_report.specs.Style.{shown_char}

-- the start of the line, and nothing in it
abbrev pub clear : List ℕ
clear = 13 ∷ 27 ∷ codes "[2K"

-- the line above, and nothing in it
abbrev pub clear_above : List ℕ
clear_above = 27 ∷ (codes "[1A" ++ (27 ∷ codes "[2K"))

-- the same so often
abbrev pub clears_above : ℕ → List ℕ
clears_above zero = []
clears_above (suc n) = clears_above n ++ clear_above

-- the line feeds of a text
abbrev pub line_feeds : List ℕ → ℕ
line_feeds text = count_by (λ byte. byte == 10) text

-- what erases a bar of so many line feeds, where one stands there
abbrev pub erased : Option ℕ → List ℕ
erased None = []
erased (Some feeds) = clear ++ clears_above feeds

-- a character of a bar
abbrev pub bar_char : ℕ → List ℕ
bar_char c = if c == 10 then 10 ∷ [] else shown_char c

-- a text as a bar: as it is shown, in its lines
unfoldable pub bar_shown : List ℕ → List ℕ
bar_shown text = flat_map bar_char (chars text)

-- the event that a display hears
abbrev pub test_event : ReporterEvent → Option TestEvent
test_event Tick = None
test_event (Test event) = Some event

-- a bar was drawn where another one stood: what erases that one, and its text
abbrev pub Draws : Option (List ℕ) → Option (List ℕ) → Option ℕ → Option ℕ → List ℕ → Type 0
Draws before after old new text = Takes before after (erased old ++ text) × (new ≡ Some (line_feeds text))

-- a bar was erased, unless the sink failed
abbrev pub Erases : Option (List ℕ) → Option (List ℕ) → ℕ → ℕ → Option ℕ → Type 0
Erases before after faults_before faults_after bar = (failed : Bool) × RoseExactlyIf failed faults_before faults_after
    × (failed ≡ false → Takes before after (erased bar))

-- a bar that isn't hidden was drawn, as it is at some moment
abbrev pub DrawnAt : (List ℕ → Type 0) → Progress → ℕ → Type 0
DrawnAt drawn progress width = is_hidden progress.seen.hiding ≡ false
    → (now : ℕ) × drawn (bar_shown (tick_of progress.showing progress.seen now width))

-- a display that has heard these
abbrev pub HasSeen : List ReporterEvent → Progress → Type 0
HasSeen events progress = StandsFor (filter_map test_event events) progress
