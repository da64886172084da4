-- The clocks at which turns tick.
use Rattle.std.specs.Prelude.{ℕ, ◌+◌, ◌-◌, ◌^◌, min, List, [], ◌∷◌, ◌++◌}
use Rattle.run_events.specs.declared.turn.Turn.{Turn}
use Rattle.run_events.specs.declared.turn.Turn.TheVariants.{Tick}
use Rattle.run_model.specs.Words.{ns_of}

-- the clock after a turn and after turns, which stays at the greatest u64
abbrev pub clock_after : ℕ → Turn → ℕ
clock_after now turn = min (now + ns_of turn) (2 ^ 64 - 1)

abbrev pub clock_after_all : ℕ → List Turn → ℕ
clock_after_all now [] = now
clock_after_all now (turn ∷ turns) = clock_after_all (clock_after now turn) turns

-- the clock of a turn that ticks, and none of another
abbrev pub clock_at : ℕ → Turn → List ℕ
clock_at now Tick = now ∷ []
clock_at now _ = []

-- the clock of each turn that ticks, in order
abbrev pub turn_clocks : ℕ → List Turn → List ℕ
turn_clocks now [] = []
turn_clocks now (turn ∷ turns) = clock_at now turn ++ turn_clocks (clock_after now turn) turns
