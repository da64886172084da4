-- The turns that a run takes by itself.
use Rattle.std.specs.Prelude.{Bool, true, false}
use Rattle.run_events.specs.declared.turn.Turn.{Turn}
use Rattle.run_events.specs.declared.turn.Turn.TheVariants as turns

-- a turn that a run takes by itself
abbrev pub is_settled_turn : Turn → Bool
is_settled_turn turns.Begin = true
is_settled_turn turns.ReportCancel = true
is_settled_turn turns.Deliver = true
is_settled_turn (turns.Take unit) = true
is_settled_turn (turns.Decide unit word) = true
is_settled_turn (turns.UnitDue unit) = true
is_settled_turn turns.GlobalDue = true
is_settled_turn turns.Admit = true
is_settled_turn turns.End = true
is_settled_turn _ = false
