-- The commands that carry out recorded turns: their words, and how each writes a run.
use Rattle.std.specs.Prelude.{ℕ, ◌≡◌, ◌≤◌, List, [], ◌∷◌, ◌++◌, map, codes, slice_index}
use Rattle.std.specs.Str.Parse.{IsNumeral, digits_value}
use Rattle.run_events.specs.declared.settings.Settings.{Settings}
use Rattle.run_events.specs.declared.events.ReporterEvent.{ReporterEvent}
use Rattle.run_events.specs.declared.events.ReporterEvent.TheVariants.{Tick, Test}
use Rattle.run_model.specs.declared.happening.Happening.{Happening}
use Rattle.run_model.specs.Words.{told, events_in}
use Rattle.run_progress.specs.declared.max_running.MaxProgressRunning.TheVariants.{Count}
use Rattle.run_output.specs.Shown.{Screen, first_screen, lines_in}
use Rattle.run_cli.specs.declared.command.Command.{Command}
use Rattle.run_cli.specs.declared.command.Command.TheVariants.{Replay, Progress}
use Rattle.run_cli.specs.Text.{Form, whole_form}

-- decimal digits without a `0` in front, whose value is from 1 to the greatest
pub record IsNumber (greatest : ℕ) (text : List ℕ) (number : ℕ) : Type 0 where
  pub first : (49 ≤ slice_index text 0) × (slice_index text 0 ≤ 57)
  pub digits : IsNumeral 10 text
  pub value : digits_value 10 text ≡ number
  pub most : number ≤ greatest

-- a width, and a number of tests
abbrev pub IsWidth : List ℕ → ℕ → Type 0
IsWidth text width = IsNumber 1000 text width

abbrev pub IsTestCount : List ℕ → ℕ → Type 0
IsTestCount text tests = IsNumber 20000 text tests

-- the words name this command: `replay`, or `progress` and a width
abbrev pub IsNamedBy : Command → List (List ℕ) → Type 0
IsNamedBy Replay words = words ≡ codes "replay" ∷ []
IsNamedBy (Progress width) words = (text : List ℕ) × (words ≡ codes "progress" ∷ text ∷ []) × IsWidth text width

-- they name one
abbrev pub NamesCommand : List (List ℕ) → Type 0
NamesCommand words = (command : Command) × IsNamedBy command words

-- the words name the command that generates a run of so many tests
abbrev pub IsGenerateOf : ℕ → List (List ℕ) → Type 0
IsGenerateOf tests words = (text : List ℕ) × (words ≡ codes "generate" ∷ text ∷ []) × IsTestCount text tests

abbrev pub NamesGenerate : List (List ℕ) → Type 0
NamesGenerate words = (tests : ℕ) × IsGenerateOf tests words

-- the ticks among events
abbrev pub ticks_in : List ReporterEvent → List ReporterEvent
ticks_in [] = []
ticks_in (Tick ∷ events) = Tick ∷ ticks_in events
ticks_in (Test event ∷ events) = ticks_in events

-- the clocks at which a history told ticks, in order: each tick's is that of its turn
abbrev pub tick_clocks : List Happening → List ℕ
tick_clocks [] = []
tick_clocks (x ∷ past) = tick_clocks past ++ map (λ tick. x.moment) (ticks_in (events_in x))

-- the display of a plan at the beginning, for a run of this history
abbrev pub display_of : Settings → ℕ → List Happening → Screen
display_of p width past = first_screen p.plan.head.mode (Count 8) width (tick_clocks past)

-- live progress: at each tick that isn't hidden the display's text at the clock of its turn, and no asks
abbrev pub progress_form : Settings → ℕ → Form
progress_form p width = record { lines = λ past. lines_in (display_of p width past) (told past); asks = λ asks. [] }

-- how each command writes a run
abbrev pub form_of : Command → Settings → Form
form_of Replay p = whole_form
form_of (Progress width) p = progress_form p width
