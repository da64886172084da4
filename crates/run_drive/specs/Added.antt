-- What was added to the work of a thread.
use Rattle.std.specs.Prelude.{ℕ, ◌≡◌, List, [], ◌∷◌, ◌++◌, Bool, true, false, ◌⊎◌}
use Rattle.std.specs.List.{All}
use Rattle.run_events.specs.declared.turn.Turn.{Turn}
use Rattle.run_events.specs.declared.turn.Turn.TheVariants as turns
use Rattle.run_shared.specs.declared.shared.Receipt.{Receipt}
use Rattle.run_shared.specs.declared.offered.Refusal.{Refusal}
use Rattle.run_shared.specs.declared.offered.RefusalKind.{RefusalKind}
use Rattle.run_shared.specs.declared.offered.RefusalKind.TheVariants.{NotEnabled, ThirdSignal, Full}
use Rattle.run_shared.specs.Settled.{is_settled_turn}
use Rattle.run_drive.specs.declared.work.Work.{Work}
use Rattle.run_drive.specs.declared.settling.Answer.{Answer}
use Rattle.run_drive.specs.declared.settling.Answer.TheVariants.{Taken, Refused}

-- the receipt of a turn that a run takes by itself
abbrev pub IsSettled : Receipt → Type 0
IsSettled r = is_settled_turn r.turn ≡ true

-- receipts of settled turns were added
pub record SettlesSome (old new : List Receipt) : Type 0 where
  pub mine : List Receipt
  pub added : new ≡ old ++ mine
  pub kinds : All IsSettled mine

-- whether who settles goes on after a turn: one who pauses stops where a sub-run has ended
abbrev pub settles_on : Bool → Turn → Bool
settles_on true turns.End = false
settles_on pauses turn = true

-- whether a turn was taken, and whether it was refused since the journal is full
abbrev pub is_taken : Answer → Bool
is_taken Taken = true
is_taken (Refused kind) = false

abbrev pub is_full_kind : RefusalKind → Bool
is_full_kind NotEnabled = false
is_full_kind ThirdSignal = false
is_full_kind Full = true

abbrev pub is_full : Answer → Bool
is_full Taken = false
is_full (Refused kind) = is_full_kind kind

-- of a turn that was taken there is a receipt, and of one that was refused a refusal, beside settled turns
abbrev pub GivesAnswer : Turn → Answer → List Receipt → List Refusal → Type 0
GivesAnswer turn Taken mine lost = ((r : Receipt) × (rest : List Receipt) × (mine ≡ r ∷ rest) × (r.turn ≡ turn)
    × All IsSettled rest) × (lost ≡ [])
GivesAnswer turn (Refused kind) mine lost =
    All IsSettled mine × ((x : Refusal) × (lost ≡ x ∷ []) × (x.turn ≡ turn) × (x.kind ≡ kind))

-- a turn was offered and answered so
pub record Enters (old : Work) (turn : Turn) (answer : Answer) (new : Work) : Type 0 where
  pub mine : List Receipt
  pub lost : List Refusal
  pub taken : new.receipts ≡ old.receipts ++ mine
  pub refused : new.refused ≡ old.refused ++ lost
  pub answered : GivesAnswer turn answer mine lost
