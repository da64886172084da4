-- The turns of a generated run: which one comes next after a journal.
use Rattle.std.specs.Prelude.{ℕ, pos, ◌≡◌, ◌+◌, ◌-◌, ◌%◌, ◌==◌, ◌||◌, ◌&&◌, List, length, take, position, slice_get}
use Rattle.std.specs.Prelude.{Bool, true, false}
use Rattle.std.specs.Prelude.{Option, Some, None, option_map, option_and_then, if◌then◌else◌}
use Rattle.std.specs.Option.{option_or}
use Rattle.run_capture.specs.declared.test_output.Stream.TheVariants.{Combined}
use Rattle.run_events.specs.declared.result.ChildExit.{ChildExit}
use Rattle.run_events.specs.declared.result.ChildExit.TheVariants.{Code}
use Rattle.run_events.specs.declared.settings.Settings.{Settings}
use Rattle.run_events.specs.declared.turn.Turn.{Turn}
use Rattle.run_events.specs.declared.turn.Turn.TheVariants.{Started, StreamEnd, Exit, Clock}
use Rattle.run_model.specs.Board.{Board, board, unit_in}
use Rattle.run_model.specs.Journal.{past_of}
use Rattle.run_model.specs.declared.entry.Entry.{Entry}
use Rattle.run_model.specs.declared.phase.Phase.{Phase}
use Rattle.run_model.specs.declared.phase.Phase.TheVariants.{Starting, Running}
use Rattle.run_model.specs.declared.unit_view.UnitView.{UnitView}
use Rattle.run_state.specs.Settle.{settling, first_enabled}
use Rattle.run_generate.specs.declared.child.Child.{Child}
use Rattle.run_generate.specs.declared.child.Child.TheVariants as children
use Rattle.run_generate.specs.declared.child.Last.{Last}
use Rattle.run_generate.specs.declared.child.Last.TheVariants as lasts

-- whether the child of a unit in this phase is asked for, or runs
abbrev pub has_child : Child → Phase → Bool
has_child children.Asked Starting = true
has_child children.Runs Running = true
has_child child phase = false

abbrev pub unit_has : Child → Option UnitView → Bool
unit_has child None = false
unit_has child (Some u) = has_child child u.phase

-- the least unit whose child is so
abbrev pub first_with : Child → Board → Option ℕ
first_with child b = position (unit_has child) b.units

-- whether this attempt of the test of a number fails, and so how its child exits
abbrev pub fails : ℕ → ℕ → Bool
fails i attempt = i % 13 == 12 || (i % 7 == 3 && attempt == 1)

abbrev pub exit_at : ℕ → ℕ → ChildExit
exit_at i attempt = Code (if fails i attempt then pos 1 else pos 0)

-- the least unit whose child is asked for has it started, as the process after its number
abbrev pub start_turn : Board → Option Turn
start_turn b = option_map (λ k. Started k (k + 1)) (first_with children.Asked b)

-- the turns of the least unit whose child runs: time passes, its output ends, and it exits
abbrev pub time_turn : Board → Option Turn
time_turn b = option_map (λ k. Clock 1000000) (first_with children.Runs b)

abbrev pub stream_turn : Board → Option Turn
stream_turn b = option_map (λ k. StreamEnd k Combined) (first_with children.Runs b)

abbrev pub exit_turn : Board → Option Turn
exit_turn b =
    option_and_then (λ k. option_map (λ u. Exit k (exit_at k u.attempt)) (unit_in b k)) (first_with children.Runs b)

-- a start, or else time passes for a child that runs; but before that the first turn that is enabled of those that a
-- run takes by itself, where units decide with the word 0
abbrev pub made_turn : Board → Option Turn
made_turn b = option_or (start_turn b) (time_turn b)

abbrev pub free_turn : Settings → Board → Option Turn
free_turn p b = option_or (first_enabled p b (settling p 0)) (made_turn b)

-- what a turn was to a child that runs, and the turn that comes after it: those of one child come together
abbrev pub last_as : Option Turn → Last
last_as (Some (Clock ns)) = lasts.Time
last_as (Some (StreamEnd k stream)) = lasts.Stream
last_as last = lasts.Other

abbrev pub turn_after : Settings → Board → Last → Option Turn
turn_after p b lasts.Time = stream_turn b
turn_after p b lasts.Stream = exit_turn b
turn_after p b lasts.Other = free_turn p b

-- the last turn of a journal
abbrev pub last_turn : List Entry → Option Turn
last_turn journal = option_map (λ e. e.turn) (slice_get journal (length journal - 1))

-- the turn that comes next after a journal
abbrev pub next_turn : Settings → List Entry → Option Turn
next_turn p journal = turn_after p (board p (past_of p journal)) (last_as (last_turn journal))

-- each turn of a journal is the next one after those before it
abbrev pub IsGenerated : Settings → List Entry → Type 0
IsGenerated p journal = (k : ℕ) (e : Entry) → slice_get journal k ≡ Some e → next_turn p (take k journal) ≡ Some e.turn
