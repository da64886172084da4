-- What a keeper heard, and when a signal may be sent.
use Rattle.std.specs.Prelude.{ℕ, ◌≡◌, ◌+◌, ◌≤◌, List, [], ◌∷◌, ◌++◌, map, Bool, true, false, Option, Some, None}
use Rattle.std.specs.Option.{IsSome}
use Rattle.std.specs.List.{All}
use Rattle.run_events.specs.declared.ask.SignalAsk.{SignalAsk}
use Rattle.run_events.specs.declared.turn.Turn.{Turn}
use Rattle.run_events.specs.declared.turn.Turn.TheVariants as turns
use Rattle.run_shared.specs.declared.shared.Receipt.{Receipt}
use Rattle.run_shared.specs.declared.offered.Refusal.{Refusal}
use Rattle.run_shared.specs.declared.orders.Order.{Order}
use Rattle.run_drive.specs.declared.spawner.Begun.{Begun}
use Rattle.run_drive.specs.declared.spawner.Begun.TheVariants.{Started, Refused}
use Rattle.run_drive.specs.declared.spawner.Said.{Said}
use Rattle.run_drive.specs.declared.spawner.Said.TheVariants.{Exit, WaitFailed}
use Rattle.run_drive.specs.Heard.{begun_turn, said_turn}
use Rattle.run_drive.specs.Driven.{OfWorker, child_turns, refused_turns, IsMerge}
use Rattle.run_keep.specs.declared.keeper.Heard.{Heard}
use Rattle.run_keep.specs.declared.keeper.Heard.TheVariants.{Asked, Told, Late, Spoke}
use Rattle.run_keep.specs.declared.kept.Kept.{Kept}

-- a child was started for a unit, or couldn't be; the child is then the unit with whether its child runs
abbrev pub child_started : ℕ → Begun → Option (ℕ × Bool)
child_started unit (Started pid) = Some (unit, true)
child_started unit (Refused error) = Some (unit, false)

-- the child runs no more
abbrev pub child_ended : Option (ℕ × Bool) → Option (ℕ × Bool)
child_ended None = None
child_ended (Some child) = Some (child.0, false)

-- a word that tells that the child was waited for
abbrev pub ends_child : Said → Bool
ends_child (Exit exit) = true
ends_child (WaitFailed error) = true
ends_child _ = false

-- the child after a word: it runs no more once it was waited for
abbrev pub child_after : Option (ℕ × Bool) → Said → Option (ℕ × Bool)
child_after child (Exit exit) = child_ended child
child_after child (WaitFailed error) = child_ended child
child_after child _ = child

-- the child after what its keeper heard
abbrev pub after : Option (ℕ × Bool) → Heard → Option (ℕ × Bool)
after child (Asked start begun) = child_started start.unit begun
after child (Told ask answer) = child
after child (Late ask) = child
after child (Spoke said) = child_after child said

-- whether a child runs, and whose it is
abbrev pub runs : Option (ℕ × Bool) → Bool
runs None = false
runs (Some child) = child.1

abbrev pub child_unit : Option (ℕ × Bool) → ℕ
child_unit None = 0
child_unit (Some child) = child.0

-- a start is asked for where no child runs; a signal is sent to its own unit's child while that runs, and is late
-- where that has ended; a word is that of a child
abbrev pub MayHear : Option (ℕ × Bool) → Heard → Type 0
MayHear child (Asked start begun) = runs child ≡ false
MayHear child (Told ask answer) = child ≡ Some (ask.unit, true)
MayHear child (Late ask) = child ≡ Some (ask.unit, false)
MayHear child (Spoke said) = IsSome child

-- a keeper with the first child heard this, and has the second then
abbrev pub Minds : Option (ℕ × Bool) → List Heard → Option (ℕ × Bool) → Type 0
Minds child [] last = child ≡ last
Minds child (x ∷ rest) last = MayHear child x × Minds (after child x) rest last

-- the turns that what was heard stands for
abbrev pub turn_heard : Option (ℕ × Bool) → Heard → List Turn
turn_heard child (Asked start begun) = begun_turn start.unit begun ∷ []
turn_heard child (Told ask answer) = []
turn_heard child (Late ask) = []
turn_heard child (Spoke said) = said_turn (child_unit child) said ∷ []

abbrev pub turns_heard : Option (ℕ × Bool) → List Heard → List Turn
turns_heard child [] = []
turns_heard child (x ∷ rest) = turn_heard child x ++ turns_heard (after child x) rest

-- the signals of which a keeper was told, sent or late
abbrev pub signal_told : Heard → List SignalAsk
signal_told (Asked start begun) = []
signal_told (Told ask answer) = ask ∷ []
signal_told (Late ask) = ask ∷ []
signal_told (Spoke said) = []

abbrev pub signals_told : List Heard → List SignalAsk
signals_told [] = []
signals_told (x ∷ rest) = signal_told x ++ signals_told rest

-- the signals of orders
abbrev pub signals_ordered : List Order → List SignalAsk
signals_ordered os = map (λ (o : Order). o.ask) os

-- the places of orders rise, from a place on and to below another
abbrev pub Rises : ℕ → List Order → ℕ → Type 0
Rises from [] to = from ≤ to
Rises from (o ∷ rest) to = (from ≤ o.place) × Rises (o.place + 1) rest to

-- a turn that tells what a child wrote
abbrev pub is_written : Turn → Bool
is_written (turns.Piece unit stream bytes) = true
is_written (turns.StreamEnd unit stream) = true
is_written (turns.ReadError unit stream error) = true
is_written _ = false

-- the refusal of a turn that doesn't tell what a child wrote
abbrev pub IsUnwritten : Refusal → Type 0
IsUnwritten x = is_written x.turn ≡ false

-- a worker's keeper heard something meanwhile: each thing that it said was taken or refused, in order, and refused was
-- nothing that a child wrote; each order that the worker was handed is one signal of which the keeper was told
pub record Minded {W : Type 0} (has_heard : W → List Heard → Type 0) (w v : W) (child last : Option (ℕ × Bool))
    (old new : Kept) : Type 0 where
  pub mine : List Receipt
  pub lost : List Refusal
  pub handed : List Order
  pub taken : new.receipts ≡ old.receipts ++ mine
  pub refused : new.lost ≡ old.lost ++ lost
  pub ordered : new.orders ≡ old.orders ++ handed
  pub rises : Rises old.from handed new.from
  pub kinds : All OfWorker mine
  pub unwritten : All IsUnwritten lost
  pub heard : (before : List Heard) → has_heard w before → (during : List Heard)
      × has_heard v (before ++ during)
      × Minds child during last
      × IsMerge (child_turns mine) (refused_turns lost) (turns_heard child during)
      × (signals_ordered handed ≡ signals_told during)

-- a keeper whose child is this was told of a signal
pub record TellsSignal {W : Type 0} (has_heard : W → List Heard → Type 0) (w v : W) (child : Option (ℕ × Bool))
    (ask : SignalAsk) : Type 0 where
  pub told : (x : Heard) × ((xs : List Heard) → has_heard w xs → has_heard v (xs ++ x ∷ [])) × MayHear child x
      × (after child x ≡ child) × (turn_heard child x ≡ []) × (signal_told x ≡ ask ∷ [])

-- from where no child runs, a worker attended to starts; where it goes on, no child runs then
pub record Tends {W : Type 0} (has_heard : W → List Heard → Type 0) (w v : W) (goes_on : Bool) (old new : Kept)
    : Type 0 where
  pub each : (child : Option (ℕ × Bool)) → runs child ≡ false → (last : Option (ℕ × Bool))
      × (goes_on ≡ true → runs last ≡ false) × Minded has_heard w v child last old new

-- this is the work of a worker whose keeper went from w to v: each thing that the keeper was asked and said meanwhile
-- was taken or refused, in that order, and refused was nothing that a child wrote; each signal was sent while its
-- unit's child ran, or was late; and those are the signals of the worker's orders, whose places rise
pub record KeepsChildren {W : Type 0} (has_heard : W → List Heard → Type 0) (w v : W) (work : Kept) : Type 0 where
  pub kinds : All OfWorker work.receipts
  pub unwritten : All IsUnwritten work.lost
  pub rises : Rises 0 work.orders work.from
  pub heard : (before : List Heard) → has_heard w before → (during : List Heard)
      × has_heard v (before ++ during)
      × ((last : Option (ℕ × Bool)) × Minds None during last)
      × IsMerge (child_turns work.receipts) (refused_turns work.lost) (turns_heard None during)
      × (signals_ordered work.orders ≡ signals_told during)
