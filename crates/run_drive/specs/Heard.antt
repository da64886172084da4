-- The turns that stand for what a spawner said.
use Rattle.std.specs.Prelude.{ℕ, List, [], ◌∷◌}
use Rattle.run_events.specs.declared.turn.Turn.{Turn}
use Rattle.run_events.specs.declared.turn.Turn.TheVariants as turns
use Rattle.run_drive.specs.declared.spawner.Begun.{Begun}
use Rattle.run_drive.specs.declared.spawner.Begun.TheVariants.{Started, Refused}
use Rattle.run_drive.specs.declared.spawner.Said.{Said}
use Rattle.run_drive.specs.declared.spawner.Said.TheVariants.{Piece, End, ReadError, Exit, WaitFailed, Env}
use Rattle.run_drive.specs.declared.spawner.Heard.{Heard}
use Rattle.run_drive.specs.declared.spawner.Heard.TheVariants.{Asked, Spoke}

-- the turn of how a unit's start was answered
abbrev pub begun_turn : ℕ → Begun → Turn
begun_turn unit (Started pid) = turns.Started unit pid
begun_turn unit (Refused error) = turns.StartFailed unit error

-- the turn of what a unit's child said
abbrev pub said_turn : ℕ → Said → Turn
said_turn unit (Piece stream bytes) = turns.Piece unit stream bytes
said_turn unit (End stream) = turns.StreamEnd unit stream
said_turn unit (ReadError stream error) = turns.ReadError unit stream error
said_turn unit (Exit exit) = turns.Exit unit exit
said_turn unit (WaitFailed error) = turns.WaitFailed unit error
said_turn unit (Env input) = turns.Env unit input

-- the turns that a list stands for: each thing said has the unit of the start before it, or this one
abbrev pub turns_from : ℕ → List Heard → List Turn
turns_from unit [] = []
turns_from unit (Asked start begun ∷ rest) = begun_turn start.unit begun ∷ turns_from start.unit rest
turns_from unit (Spoke said ∷ rest) = said_turn unit said ∷ turns_from unit rest
