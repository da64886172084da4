-- The next turn of a generated run, by cases that proofs can name.
use Rattle.std.proofs.Common.{◌≡◌, ℕ, ◌+◌, Bool, true, false, Option, Some, None, position, option_map, option_and_then}
use Rattle.std.proofs.Common.{refl}
use Rattle.std.specs.Option.{option_or}
use Rattle.run_capture.specs.declared.test_output.Stream.TheVariants as streams
use Rattle.run_events.specs.declared.settings.Settings.{Settings}
use Rattle.run_events.specs.declared.turn.Turn.{Turn}
use Rattle.run_events.specs.declared.turn.Turn.TheVariants as turns
use Rattle.run_model.specs.Board.{Board, unit_in}
use Rattle.run_model.specs.declared.phase.Phase.{Phase}
use Rattle.run_model.specs.declared.phase.Phase.TheVariants.{Starting, Running}
use Rattle.run_model.specs.declared.unit_view.UnitView.{UnitView}
use Rattle.run_state.specs.Settle.{first_enabled, settling}
use Rattle.run_generate.specs.Turns.{exit_at, last_as, turn_after}

-- between which turns of a child a run is: after the tick for it, after its stream's end, or elsewhere
pub data Stage : Type 0 where
  at_rest : Stage
  after_tick : Stage
  after_end : Stage

-- where a run is after its last turn
abbrev pub stage_of : Option Turn → Stage
stage_of (Some (turns.Clock ns)) = after_tick
stage_of (Some (turns.StreamEnd k stream)) = after_end
stage_of last = at_rest

-- whether the child of a unit is asked for, or runs
abbrev pub is_asked : Phase → Bool
is_asked Starting = true
is_asked ph = false

-- whether it runs
abbrev pub is_running : Phase → Bool
is_running Running = true
is_running ph = false

-- whether the phase of a unit that was admitted passes a test
abbrev pub stands_as : (Phase → Bool) → Option UnitView → Bool
stands_as test None = false
stands_as test (Some u) = test u.phase

-- the first unit whose phase does
abbrev pub first_in : (Phase → Bool) → Board → Option ℕ
first_in test b = position (stands_as test) b.units

-- the tick for the first child that runs
abbrev pub time_by : Board → Option Turn
time_by b = option_map (λ k. turns.Clock 1000000) (first_in is_running b)

-- the start of the first child that is asked for, or that tick
abbrev pub made_by : Board → Option Turn
made_by b = option_or (option_map (λ k. turns.Started k (k + 1)) (first_in is_asked b)) (time_by b)

-- the next turn at a stage
abbrev pub next_by : Settings → Board → Stage → Option Turn
next_by p b after_tick = option_map (λ k. turns.StreamEnd k streams.Combined) (first_in is_running b)
next_by p b after_end =
    option_and_then (λ k. option_map (λ u. turns.Exit k (exit_at k u.attempt)) (unit_in b k)) (first_in is_running b)
next_by p b at_rest = option_or (first_enabled p b (settling p 0)) (made_by b)

-- it is the one of the definition
pub next-is : (p : Settings) (b : Board) (last : Option Turn)
    → turn_after p b (last_as last) ≡ next_by p b (stage_of last)
next-is p b (Some (turns.Clock ns)) = refl
next-is p b (Some (turns.StreamEnd k stream)) = refl
next-is p b last = refl
