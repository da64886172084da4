-- A turn is one of the run's own, or a unit's.
use Rattle.std.proofs.Common.{◌≡◌, ℕ, Bool, true, false, Option, Some, None, refl}
use Rattle.run_events.specs.declared.turn.Turn.{Turn}
use Rattle.run_events.specs.declared.turn.Turn.TheVariants.{Begin, Admit, Deliver, Started, StartFailed, Exit}
use Rattle.run_events.specs.declared.turn.Turn.TheVariants.{WaitFailed, Piece, StreamEnd, ReadError, Env, Decide}
use Rattle.run_events.specs.declared.turn.Turn.TheVariants.{UnitDue, Take, Clock, GlobalDue, Signal, ReportCancel}
use Rattle.run_events.specs.declared.turn.Turn.TheVariants.{End, Key, Tick, StopWaitDue, Answer, InfoDue}
use Rattle.run_events.specs.declared.input.Key.{Key as KeyName}
use Rattle.run_events.specs.declared.signal.Signal.{Signal as SignalName}
use Rattle.run_model.specs.declared.unit_turn.UnitTurn.{UnitTurn}
use Rattle.run_model.specs.declared.unit_turn.UnitTurn.TheVariants.{Answered}
use Rattle.run_model.specs.Turns.{turn_of_unit}

-- whether a turn is the answer to a start message
abbrev pub is_answer : UnitTurn → Bool
is_answer (Answered go) = true
is_answer _ = false

-- what holds of each of the run's own turns, and of any turn of a unit, holds of every turn
pub record Cases (P : Turn → Option (ℕ × UnitTurn) → Type 0) : Type 0 where
  pub begin : P Begin None
  pub admit : P Admit None
  pub deliver : P Deliver None
  pub clock : (ns : ℕ) → P (Clock ns) None
  pub signal : (signal : SignalName) → P (Signal signal) None
  pub global_due : P GlobalDue None
  pub report_cancel : P ReportCancel None
  pub end : P End None
  pub key : (key : KeyName) → P (Key key) None
  pub tick : P Tick None
  pub stop_wait_due : P StopWaitDue None
  pub answer : P Answer None
  pub info_due : P InfoDue None
  pub named : (turn : Turn) (k : ℕ) (to : UnitTurn) → is_answer to ≡ false → P turn (Some (k, to))

pub by_turn : (P : Turn → Option (ℕ × UnitTurn) → Type 0) → Cases P → (turn : Turn) → P turn (turn_of_unit turn)
by_turn P c Begin = c.begin
by_turn P c Admit = c.admit
by_turn P c Deliver = c.deliver
by_turn P c (Started unit pid) = c.named _ _ _ refl
by_turn P c (StartFailed unit error) = c.named _ _ _ refl
by_turn P c (Exit unit exit) = c.named _ _ _ refl
by_turn P c (WaitFailed unit error) = c.named _ _ _ refl
by_turn P c (Piece unit stream bytes) = c.named _ _ _ refl
by_turn P c (StreamEnd unit stream) = c.named _ _ _ refl
by_turn P c (ReadError unit stream error) = c.named _ _ _ refl
by_turn P c (Env unit input) = c.named _ _ _ refl
by_turn P c (UnitDue unit) = c.named _ _ _ refl
by_turn P c (Take unit) = c.named _ _ _ refl
by_turn P c (Decide unit word) = c.named _ _ _ refl
by_turn P c (Clock ns) = c.clock ns
by_turn P c (Signal signal) = c.signal signal
by_turn P c GlobalDue = c.global_due
by_turn P c ReportCancel = c.report_cancel
by_turn P c End = c.end
by_turn P c (Key key) = c.key key
by_turn P c Tick = c.tick
by_turn P c StopWaitDue = c.stop_wait_due
by_turn P c Answer = c.answer
by_turn P c InfoDue = c.info_due
