-- What was added to the work of a thread.
use Rattle.std.specs.Prelude.{◌≡◌, List, [], ◌∷◌, ◌++◌, Option, Some, None}
use Rattle.std.specs.List.{All}
use Rattle.run_events.specs.declared.turn.Turn.{Turn}
use Rattle.run_shared.specs.declared.shared.Receipt.{Receipt}
use Rattle.run_shared.specs.declared.offered.Refusal.{Refusal}
use Rattle.run_drive.specs.Added.{IsSettled}
use Rattle.run_drive.specs.Driven.{OfWorker, child_turns, refused_turns, IsMerge}
use Rattle.run_keep.specs.declared.kept.Kept.{Kept}
use Rattle.run_keep.specs.Minded.{IsUnwritten}

-- of a turn that was taken there is a receipt, before those of settled turns; else there is a refusal of it
abbrev pub GivesRefusal : Turn → Option Refusal → List Receipt → Type 0
GivesRefusal turn None mine =
    (r : Receipt) × (rest : List Receipt) × (mine ≡ r ∷ rest) × (r.turn ≡ turn) × All IsSettled rest
GivesRefusal turn (Some x) mine = All IsSettled mine × (x.turn ≡ turn)

-- a turn was offered, and refused so if it was; then turns were settled
pub record EntersTurn (old : List Receipt) (turn : Turn) (refusal : Option Refusal) (new : List Receipt) : Type 0 where
  pub mine : List Receipt
  pub added : new ≡ old ++ mine
  pub given : GivesRefusal turn refusal mine

-- the turn of a child was taken or refused, beside settled turns
pub record AddsChildTurn (old : Kept) (turn : Turn) (new : Kept) : Type 0 where
  pub mine : List Receipt
  pub lost : List Refusal
  pub taken : new.receipts ≡ old.receipts ++ mine
  pub refused : new.lost ≡ old.lost ++ lost
  pub orders : new.orders ≡ old.orders
  pub from : new.from ≡ old.from
  pub kinds : All OfWorker mine
  pub unwritten : All IsUnwritten lost
  pub merged : IsMerge (child_turns mine) (refused_turns lost) (turn ∷ [])
