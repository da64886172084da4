-- When a turn can be taken, on a board.
use Rattle.std.specs.Prelude.{ℕ, ◌≡◌, ◌+◌, ◌<◌, ◌≤◌, ◌^◌, List, [], ◌∷◌, length, Bool, true, false, Option, Some, None}
use Rattle.std.specs.Prelude.{is_some, ⊤}
use Rattle.run_events.specs.declared.settings.Settings.{Settings}
use Rattle.run_events.specs.declared.turn.Turn.{Turn}
use Rattle.run_events.specs.declared.turn.Turn.TheVariants.{Begin, Admit, Deliver, Clock, Signal, GlobalDue}
use Rattle.run_events.specs.declared.turn.Turn.TheVariants.{ReportCancel, End, Key, Tick, StopWaitDue, Answer, InfoDue}
use Rattle.run_events.specs.declared.message.Message.{Message}
use Rattle.run_model.specs.declared.entry.Entry.{Entry}
use Rattle.run_model.specs.declared.unit_turn.UnitTurn.{UnitTurn}
use Rattle.run_model.specs.declared.unit_turn.UnitTurn.TheVariants.{Answered}
use Rattle.run_model.specs.declared.unit_view.UnitView.{UnitView}
use Rattle.run_model.specs.Unit.{takes}
use Rattle.run_model.specs.Words.{clock, ns_of}
use Rattle.run_model.specs.declared.happening.Happening.{Happening}
use Rattle.run_model.specs.Environment.{number}
use Rattle.run_model.specs.Admission.{units_in, newcomer}
use Rattle.run_model.specs.Dispatch.{heard_by, takes_signal, go_of, CanDeliver}
use Rattle.run_model.specs.Board.{Board, board, unit_in}
use Rattle.run_model.specs.Turns.{starting, enabled, turn_of_unit, oldest_of}
use Rattle.run_model.specs.Journal.{past_of, IsLegal}
use Rattle.run_model.specs.Turns.{index_of}

-- neither the dispatcher nor a unit took a turn later than the clock is
pub record IsTimelyBoard (b : Board) : Type 0 where
  pub dispatcher : b.dispatcher.latest ≤ b.clock
  pub units : (k : ℕ) (u : UnitView) → unit_in b k ≡ Some u → u.latest ≤ b.clock

-- the unit of this number is one of the plan and can take a turn
pub record CanTakeTurn (b : Board) (k : ℕ) (turn : UnitTurn) : Type 0 where
  pub unit : UnitView
  pub is : unit_in b k ≡ Some unit
  pub named : number unit ≡ k
  pub below : k < length b.units
  pub takes : takes b.clock unit turn ≡ true
  pub later : unit.latest ≤ b.clock

-- an answer can be given to the unit that waits for it
abbrev pub CanAnswer : Board → Option ℕ → Option Bool → Type 0
CanAnswer b (Some k) (Some go) = CanTakeTurn b k (Answered go)
CanAnswer b _ _ = ⊤

-- the oldest message can be delivered
abbrev pub CanDeliverOldest : Board → List Message → Type 0
CanDeliverOldest b [] = ⊥
CanDeliverOldest b (m ∷ rest) = CanDeliver b.dispatcher m × CanAnswer b (starting m) (go_of b.dispatcher.tally m)

-- the next script or test can be admitted
pub record CanAdmit (p : Settings) (b : Board) : Type 0 where
  pub candidate : is_some (newcomer p (index_of b.dispatcher) b.units) ≡ true
  pub whole : length b.units ≡ units_in p

-- one more round can be numbered
abbrev pub HasRound : Board → Type 0
HasRound b = b.dispatcher.rounds.count + 1 < 2 ^ 32

-- one more sub-run can be counted
abbrev pub HasSubRun : Board → Type 0
HasSubRun b =
    (b.dispatcher.sub_runs.failed ≤ b.dispatcher.sub_runs.ended) × (b.dispatcher.sub_runs.ended + 1 < 2 ^ 32)

-- the oldest answer can be told
abbrev pub CanAnswerNext : Board → Type 0
CanAnswerNext b = (is_some (oldest_of b.answers) ≡ true) × (b.dispatcher.rounds.told + 1 < 2 ^ 32)

-- a turn of the run's own can be taken
abbrev pub CanRun : Settings → Board → Turn → Type 0
CanRun p b Begin = b.dispatcher.on ≡ false
CanRun p b Admit = CanAdmit p b
CanRun p b Deliver = CanDeliverOldest b b.queue
CanRun p b (Clock ns) = b.clock + ns < 2 ^ 64
CanRun p b (Signal signal) =
    (takes_signal b.dispatcher.causes.signals (heard_by b.dispatcher.rules.hearing signal) ≡ true) × HasRound b
CanRun p b (Key key) = HasRound b
CanRun p b Tick = ⊤
CanRun p b StopWaitDue = ⊤
CanRun p b Answer = CanAnswerNext b
CanRun p b InfoDue = ⊤
CanRun p b GlobalDue = b.dispatcher.on ≡ true
CanRun p b ReportCancel = b.dispatcher.on ≡ true
CanRun p b End = (b.dispatcher.on ≡ true) × HasSubRun b
CanRun p b _ = ⊥

-- a turn can be taken: none is earlier than the latest that its taker took
abbrev pub CanAdvance : Settings → Board → Turn → Option (ℕ × UnitTurn) → Type 0
CanAdvance p b turn None = (b.dispatcher.latest ≤ b.clock) × CanRun p b turn
CanAdvance p b turn (Some named) = CanTakeTurn b named.0 named.1

-- after every legal journal no turn was taken later than the clock is
abbrev pub AllAreTimely : Type 0
AllAreTimely = (p : Settings) (journal : List Entry) → IsLegal p journal → IsTimelyBoard (board p (past_of p journal))

-- a turn of the clock moves it by its nanoseconds, and no other turn moves it
abbrev pub ClockMoves : Type 0
ClockMoves = (past : List Happening) (x : Happening) → clock (x ∷ past) ≡ clock past + ns_of x.turn

-- after a legal journal each enabled turn can be taken
abbrev pub EnabledCan : Type 0
EnabledCan = (p : Settings) (journal : List Entry) (turn : Turn) → IsLegal p journal → units_in p < 2 ^ 32
    → length journal < 2 ^ 32
    → enabled p (past_of p journal) turn ≡ true → CanAdvance p (board p (past_of p journal)) turn (turn_of_unit turn)
