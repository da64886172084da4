-- What came from outside.
use Rattle.run_events.specs.declared.turn.Turn.{Turn}
use Rattle.run_events.specs.declared.turn.Turn.TheVariants as turns
use Rattle.run_keep.specs.declared.outside.Came.{Came}
use Rattle.run_keep.specs.declared.outside.Came.TheVariants as came

-- the turn of what came
abbrev pub came_turn : Came → Turn
came_turn (came.Signal signal) = turns.Signal signal
came_turn (came.Key key) = turns.Key key
came_turn came.Tick = turns.Tick
