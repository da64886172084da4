-- What a ticker told, and the turns that end rounds.
use Rattle.std.specs.Prelude.{ℕ, ◌≡◌, List, [], ◌∷◌, ◌++◌, Bool, true, false, ◌||◌, Option, Some, None}
use Rattle.std.specs.List.{All}
use Rattle.run_events.specs.declared.turn.Turn.{Turn}
use Rattle.run_events.specs.declared.turn.Turn.TheVariants as turns
use Rattle.run_shared.specs.declared.shared.Receipt.{Receipt}
use Rattle.run_shared.specs.declared.offered.Refusal.{Refusal}
use Rattle.run_shared.specs.Settled.{is_settled_turn}
use Rattle.run_drive.specs.Driven.{is_clock_turn}
use Rattle.run_drive.specs.Ticked.{steps_in}
use Rattle.run_keep.specs.declared.rounds.Round.{Round}
use Rattle.run_keep.specs.declared.rounds.Round.TheVariants.{StopWaitDue, InfoDue, Answer}
use Rattle.run_keep.specs.declared.rounds.Ticked.{Ticked}

-- the turn by which a round goes on
abbrev pub round_turn : Round → Turn
round_turn StopWaitDue = turns.StopWaitDue
round_turn InfoDue = turns.InfoDue
round_turn Answer = turns.Answer

abbrev pub is_round_turn : Turn → Bool
is_round_turn turns.StopWaitDue = true
is_round_turn turns.InfoDue = true
is_round_turn turns.Answer = true
is_round_turn _ = false

-- the receipt of a turn that a ticker of rounds takes
abbrev pub OfRounds : Receipt → Type 0
OfRounds r = (is_clock_turn r.turn || (is_round_turn r.turn || is_settled_turn r.turn)) ≡ true

-- turns were taken, none of which moves the clock
pub record Rests (old new : List Receipt) : Type 0 where
  pub mine : List Receipt
  pub added : new ≡ old ++ mine
  pub kinds : All OfRounds mine
  pub still : steps_in mine ≡ []

-- the ticker told steps meanwhile, each of which was taken, but for the last ones
pub record Steps {T : Type 0} (has_told : T → List ℕ → Type 0) (t u : T) (last : List ℕ) (old new : List Receipt)
    : Type 0 where
  pub mine : List Receipt
  pub added : new ≡ old ++ mine
  pub kinds : All OfRounds mine
  pub told : (before : List ℕ) → has_told t before → has_told u (before ++ (steps_in mine ++ last))

-- the same up to one that was refused, if one was
abbrev pub StepsTo : {T : Type 0} → (T → List ℕ → Type 0) → T → T → Option Refusal → List Receipt → List Receipt
    → Type 0
StepsTo has_told t u None old new = Steps has_told t u [] old new
StepsTo has_told t u (Some x) old new =
    (ns : ℕ) × (x.turn ≡ turns.Clock ns) × Steps has_told t u (ns ∷ []) old new

-- the work of a ticker that went from t to u: behind its first receipts it has those of what it told meanwhile, in
-- order, all but the last step, which was refused
pub record TicksRounds {T : Type 0} (has_told : T → List ℕ → Type 0) (t u : T) (first : List Receipt) (work : Ticked)
    : Type 0 where
  pub mine : List Receipt
  pub taken : work.receipts ≡ first ++ mine
  pub kinds : All OfRounds mine
  pub last : ℕ
  pub refused : work.refused.turn ≡ turns.Clock last
  pub told : (before : List ℕ) → has_told t before → has_told u (before ++ (steps_in mine ++ last ∷ []))
