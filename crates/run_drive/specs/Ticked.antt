-- What a ticker told, and what became of it.
use Rattle.std.specs.Prelude.{ℕ, ◌≡◌, List, [], ◌∷◌, ◌++◌, map, Bool, true, false}
use Rattle.std.specs.List.{All}
use Rattle.run_events.specs.declared.turn.Turn.{Turn}
use Rattle.run_events.specs.declared.turn.Turn.TheVariants as turns
use Rattle.run_shared.specs.declared.shared.Receipt.{Receipt}
use Rattle.run_shared.specs.declared.offered.Refusal.{Refusal}
use Rattle.run_drive.specs.declared.work.Work.{Work}
use Rattle.run_drive.specs.Driven.{OfTicker}

-- how far a turn moves the clock, if it does
abbrev pub step_in : Turn → List ℕ
step_in (turns.Clock ns) = ns ∷ []
step_in _ = []

-- how far each turn of receipts moves the clock
abbrev pub steps_in : List Receipt → List ℕ
steps_in [] = []
steps_in (r ∷ rs) = step_in r.turn ++ steps_in rs

-- one step of the clock was refused, and nothing else
abbrev pub RefusesStep : ℕ → List Refusal → Type 0
RefusesStep ns refused = (x : Refusal) × (refused ≡ x ∷ []) × (x.turn ≡ turns.Clock ns)

-- how the ticker goes on: nothing was refused so far, or this was told and refused
abbrev pub TellsOn : Bool → List ℕ → List Refusal → Type 0
TellsOn true last lost = (last ≡ []) × (lost ≡ [])
TellsOn false last lost = (ns : ℕ) × (last ≡ ns ∷ []) × RefusesStep ns lost

-- the ticker told steps meanwhile, each of which was taken, but for the last one where it doesn't go on
pub record TicksOn {T : Type 0} (has_told : T → List ℕ → Type 0) (t u : T) (goes_on : Bool) (old new : Work)
    : Type 0 where
  pub mine : List Receipt
  pub lost : List Refusal
  pub last : List ℕ
  pub taken : new.receipts ≡ old.receipts ++ mine
  pub refused : new.refused ≡ old.refused ++ lost
  pub kinds : All OfTicker mine
  pub told : (before : List ℕ) → has_told t before → has_told u (before ++ (steps_in mine ++ last))
  pub ends : TellsOn goes_on last lost

-- behind its first receipts the ticker has those of what it told meanwhile, in order, all but the last step, which was
-- refused
pub record Ticks {T : Type 0} (has_told : T → List ℕ → Type 0) (t u : T) (first : List Receipt) (work : Work)
    : Type 0 where
  pub mine : List Receipt
  pub taken : work.receipts ≡ first ++ mine
  pub last : ℕ
  pub refused : RefusesStep last work.refused
  pub told : (before : List ℕ) → has_told t before → has_told u (before ++ (steps_in mine ++ last ∷ []))
