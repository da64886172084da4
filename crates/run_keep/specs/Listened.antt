-- What a listener made of what came from outside.
use Rattle.std.specs.Prelude.{◌≡◌, List, ◌++◌, map, Bool, true, false, ◌||◌, Option}
use Rattle.std.specs.Prelude.{is_some, option_to_list}
use Rattle.std.specs.List.{All, filter}
use Rattle.run_events.specs.Hearing.{heard_signal, heard_key}
use Rattle.run_events.specs.declared.plan.Hearing.{Hearing}
use Rattle.run_events.specs.declared.turn.Turn.{Turn}
use Rattle.run_events.specs.declared.turn.Turn.TheVariants as turns
use Rattle.run_shared.specs.declared.shared.Receipt.{Receipt}
use Rattle.run_shared.specs.Settled.{is_settled_turn}
use Rattle.run_drive.specs.Driven.{IsMerge}
use Rattle.run_keep.specs.declared.outside.Came.{Came}
use Rattle.run_keep.specs.declared.outside.Came.TheVariants as came
use Rattle.run_keep.specs.declared.listened.Dropped.{Dropped}
use Rattle.run_keep.specs.declared.listened.Dropped.TheVariants.{Unheard, Refused}
use Rattle.run_keep.specs.declared.listened.Listened.{Listened}
use Rattle.run_keep.specs.Outside.{came_turn}

-- a turn that comes from outside
abbrev pub is_outside_turn : Turn → Bool
is_outside_turn (turns.Signal signal) = true
is_outside_turn (turns.Key key) = true
is_outside_turn turns.Tick = true
is_outside_turn _ = false

-- the receipt of a turn that a listener takes
abbrev pub OfListener : Receipt → Type 0
OfListener r = (is_outside_turn r.turn || is_settled_turn r.turn) ≡ true

-- the turns of receipts that came from outside
abbrev pub outside_turns : List Receipt → List Turn
outside_turns rs = filter is_outside_turn (map (λ (r : Receipt). r.turn) rs)

-- whether a run with these handlers hears what came
abbrev pub hears_came : Hearing → Came → Bool
hears_came h (came.Signal signal) = is_some (heard_signal h.signals h.quit_is_info signal)
hears_came h (came.Key key) = is_some (heard_key h.input key)
hears_came h came.Tick = true

-- what was dropped, and that it was for good: the run doesn't hear it, or refused it
abbrev pub dropped_turn : Dropped → Turn
dropped_turn (Unheard what) = came_turn what
dropped_turn (Refused refusal) = refusal.turn

abbrev pub dropped_turns : List Dropped → List Turn
dropped_turns xs = map dropped_turn xs

abbrev pub IsDropped : Hearing → Dropped → Type 0
IsDropped h (Unheard what) = hears_came h what ≡ false
IsDropped h (Refused refusal) = Unit {0}

-- the turns of what came
abbrev pub turns_come : List Came → List Turn
turns_come xs = map came_turn xs

-- an outside went from w to v while a listener that held the first holds the second then
pub record TakesIn {W : Type 0} (has_come : W → List Came → Type 0) (w v : W) (a b : Option Came) : Type 0 where
  pub come : (before : List Came) → has_come w before → (during : List Came) × has_come v (before ++ during)
      × (option_to_list a ++ during ≡ option_to_list b)

-- of what was held some was decided, in order: taken or dropped; the rest is held on
pub record Sorts (h : Hearing) (a b : Option Came) (old new : Listened) : Type 0 where
  pub mine : List Receipt
  pub gone : List Dropped
  pub decided : List Came
  pub taken : new.receipts ≡ old.receipts ++ mine
  pub dropped : new.dropped ≡ old.dropped ++ gone
  pub kinds : All OfListener mine
  pub reasons : All (IsDropped h) gone
  pub order : option_to_list a ≡ decided ++ option_to_list b
  pub merged : IsMerge (outside_turns mine) (dropped_turns gone) (turns_come decided)

-- both: each thing that came is held, or was taken or dropped, in that order
pub record HearsOn {W : Type 0} (has_come : W → List Came → Type 0) (w v : W) (h : Hearing) (a b : Option Came)
    (old new : Listened) : Type 0 where
  pub mine : List Receipt
  pub gone : List Dropped
  pub taken : new.receipts ≡ old.receipts ++ mine
  pub dropped : new.dropped ≡ old.dropped ++ gone
  pub kinds : All OfListener mine
  pub reasons : All (IsDropped h) gone
  pub come : (before : List Came) → has_come w before → (during : List Came) × has_come v (before ++ during)
      × ((decided : List Came) × (option_to_list a ++ during ≡ decided ++ option_to_list b)
      × IsMerge (outside_turns mine) (dropped_turns gone) (turns_come decided))

-- this is the work of a listener whose outside went from w to v: each thing that came meanwhile was taken or dropped,
-- in that order, and dropped was what the run doesn't hear or refused
pub record HearsOutside {W : Type 0} (has_come : W → List Came → Type 0) (w v : W) (h : Hearing) (work : Listened)
    : Type 0 where
  pub kinds : All OfListener work.receipts
  pub reasons : All (IsDropped h) work.dropped
  pub come : (before : List Came) → has_come w before → (during : List Came) × has_come v (before ++ during)
      × IsMerge (outside_turns work.receipts) (dropped_turns work.dropped) (turns_come during)
