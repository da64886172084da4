-- What receipts say of who got them.
use Rattle.std.specs.Prelude.{◌≡◌, List, [], ◌∷◌, ◌++◌, Bool, true, false, ◌||◌, ◌⊎◌, map}
use Rattle.std.specs.List.{All, filter}
use Rattle.run_events.specs.declared.turn.Turn.{Turn}
use Rattle.run_events.specs.declared.turn.Turn.TheVariants as turns
use Rattle.run_shared.specs.declared.shared.Receipt.{Receipt}
use Rattle.run_shared.specs.declared.offered.Refusal.{Refusal}
use Rattle.run_shared.specs.Settled.{is_settled_turn}
use Rattle.run_drive.specs.declared.spawner.Heard.{Heard}
use Rattle.run_drive.specs.declared.work.Work.{Work}
use Rattle.run_drive.specs.Heard.{turns_from}
use Rattle.run_drive.specs.Hearing.{IsHeardOut}

-- a turn that tells what a child did
abbrev pub is_child_turn : Turn → Bool
is_child_turn (turns.Started unit pid) = true
is_child_turn (turns.StartFailed unit error) = true
is_child_turn (turns.Piece unit stream bytes) = true
is_child_turn (turns.StreamEnd unit stream) = true
is_child_turn (turns.ReadError unit stream error) = true
is_child_turn (turns.Exit unit exit) = true
is_child_turn (turns.WaitFailed unit error) = true
is_child_turn (turns.Env unit input) = true
is_child_turn _ = false

-- a turn that tells how time goes by
abbrev pub is_clock_turn : Turn → Bool
is_clock_turn (turns.Clock ns) = true
is_clock_turn _ = false

-- the receipt of a turn that a worker takes
abbrev pub OfWorker : Receipt → Type 0
OfWorker r = (is_child_turn r.turn || is_settled_turn r.turn) ≡ true

-- the receipt of a turn that the ticker takes
abbrev pub OfTicker : Receipt → Type 0
OfTicker r = (is_clock_turn r.turn || is_settled_turn r.turn) ≡ true

-- the turns of receipts that tell what children did
abbrev pub child_turns : List Receipt → List Turn
child_turns rs = filter is_child_turn (map (λ (r : Receipt). r.turn) rs)

-- the turns of refusals
abbrev pub refused_turns : List Refusal → List Turn
refused_turns xs = map (λ (x : Refusal). x.turn) xs

-- the third list is the first two put together, each in its order
abbrev pub IsMerge : {X : Type 0} → List X → List X → List X → Type 0
IsMerge xs ys [] = (xs ≡ []) × (ys ≡ [])
IsMerge {X} xs ys (z ∷ zs) = ((rest : List X) × (xs ≡ z ∷ rest) × IsMerge rest ys zs)
    ⊎ ((rest : List X) × (ys ≡ z ∷ rest) × IsMerge xs rest zs)

-- this is the work of a worker whose spawner went from w to v: each thing that the spawner was asked and said meanwhile
-- was offered, in that order, and taken or refused; and each child was heard out
pub record Drives {W : Type 0} (has_said : W → List Heard → Type 0) (w v : W) (work : Work) : Type 0 where
  pub kinds : All OfWorker work.receipts
  pub heard : (before : List Heard) → has_said w before
      → (during : List Heard) × has_said v (before ++ during)
      × IsMerge (child_turns work.receipts) (refused_turns work.refused) (turns_from 0 during)
      × IsHeardOut during work.refused
