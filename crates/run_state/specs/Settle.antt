-- The turns that a run takes by itself, and the first of them that is enabled.
use Rattle.std.specs.Prelude.{ℕ, ◌≡◌, ◌<◌, List, [], ◌∷◌, ◌++◌, map, length, true, false, if◌then◌else◌, Option, Some}
use Rattle.std.specs.Prelude.{None, IfSome, IsNone, Bool}
use Rattle.std.specs.List.{range_with_len}
use Rattle.run_events.specs.declared.settings.Settings.{Settings}
use Rattle.run_events.specs.declared.turn.Turn.{Turn}
use Rattle.run_events.specs.declared.turn.Turn.TheVariants as turns
use Rattle.run_model.specs.declared.unit_turn.UnitTurn.{UnitTurn}
use Rattle.run_model.specs.declared.unit_turn.UnitTurn.TheVariants as own
use Rattle.run_model.specs.Admission.{units_in}
use Rattle.run_model.specs.Board.{Board, unit_in}
use Rattle.run_model.specs.Turns.{enabled_on, unit_takes}
use Rattle.run_state.specs.declared.settle.Firsts.{Firsts}
use Rattle.run_state.specs.declared.settle.Settled.{Settled}
use Rattle.run_state.specs.declared.settle.Settled.TheVariants as settled

-- the turn that is settled
abbrev pub settled_turn : Settled → Turn
settled_turn settled.Begin = turns.Begin
settled_turn settled.ReportCancel = turns.ReportCancel
settled_turn settled.Deliver = turns.Deliver
settled_turn (settled.Take unit) = turns.Take unit
settled_turn (settled.Decide unit word) = turns.Decide unit word
settled_turn (settled.UnitDue unit) = turns.UnitDue unit
settled_turn settled.GlobalDue = turns.GlobalDue
settled_turn settled.Admit = turns.Admit
settled_turn settled.End = turns.End

-- a turn of each unit of a plan, by number
abbrev pub of_each : Settings → (ℕ → Turn) → List Turn
of_each p turn = map turn (range_with_len 0 (units_in p))

-- the turns that a run takes by itself, in the order in which they are tried; units decide with this word
abbrev pub first_turns : List Turn
first_turns = turns.Begin ∷ turns.ReportCancel ∷ turns.Deliver ∷ []

abbrev pub last_turns : List Turn
last_turns = turns.GlobalDue ∷ turns.Admit ∷ turns.End ∷ []

abbrev pub settling : Settings → ℕ → List Turn
settling p word = first_turns ++ (of_each p turns.Take ++ (of_each p (λ unit. turns.Decide unit word)
    ++ (of_each p turns.UnitDue ++ last_turns)))

-- the first of some turns that is enabled on a board
abbrev pub first_enabled : Settings → Board → List Turn → Option Turn
first_enabled p b [] = None
first_enabled p b (t ∷ ts) = if enabled_on p b t then Some t else first_enabled p b ts

-- the unit of this number is the first that takes a turn; none takes it
pub record IsFirstTaker (b : Board) (turn : UnitTurn) (unit : ℕ) : Type 0 where
  pub within : unit < length b.units
  pub takes : unit_takes b.clock (unit_in b unit) turn ≡ true
  pub before : (k : ℕ) → k < unit → unit_takes b.clock (unit_in b k) turn ≡ false

abbrev pub NoneTakes : Board → UnitTurn → ℕ → Type 0
NoneTakes b turn count = (k : ℕ) → k < count → unit_takes b.clock (unit_in b k) turn ≡ false

-- the first unit that takes a turn, none where none does
abbrev pub IsFirstOf : Board → UnitTurn → Option ℕ → Type 0
IsFirstOf b turn first =
    IfSome first (IsFirstTaker b turn) × (IsNone first → NoneTakes b turn (length b.units))

-- the first of some, after one more, which is of them or not
abbrev pub first_of : Option ℕ → ℕ → Bool → Option ℕ
first_of (Some first) unit is = Some first
first_of None unit is = if is then Some unit else None

-- the first units that take each of the turns that come by themselves; of the later ones where none takes a request
pub record AreFirsts (b : Board) (word : ℕ) (f : Firsts) : Type 0 where
  pub take : IsFirstOf b own.Take f.take
  pub decide : IsNone f.take → IsFirstOf b (own.Decide word) f.decide
  pub due : IsNone f.take → IsFirstOf b own.Due f.due
