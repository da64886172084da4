-- What a unit hears of its child's streams.
use Rattle.std.specs.Prelude.{Bool, true, false}
use Rattle.run_model.specs.declared.unit_turn.UnitTurn.{UnitTurn}
use Rattle.run_model.specs.declared.unit_turn.UnitTurn.TheVariants.{Piece, StreamEnd, ReadError}

-- whether a turn is one of a stream
abbrev pub is_of_stream : UnitTurn → Bool
is_of_stream (Piece stream bytes) = true
is_of_stream (StreamEnd stream) = true
is_of_stream (ReadError stream error) = true
is_of_stream _ = false
