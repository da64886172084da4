-- What a worker adds to its work, and what its spawner said meanwhile.
use Rattle.std.specs.Prelude.{ℕ, ◌≡◌, List, [], ◌∷◌, ◌++◌, map, Bool, true, false, Option, Some, None, ◌⊎◌}
use Rattle.std.specs.List.{All}
use Rattle.run_events.specs.declared.ask.StartAsk.{StartAsk}
use Rattle.run_shared.specs.declared.shared.Receipt.{Receipt}
use Rattle.run_shared.specs.declared.offered.Refusal.{Refusal}
use Rattle.run_drive.specs.declared.spawner.Begun.{Begun}
use Rattle.run_drive.specs.declared.spawner.Said.{Said}
use Rattle.run_drive.specs.declared.spawner.Heard.{Heard}
use Rattle.run_drive.specs.declared.spawner.Heard.TheVariants.{Asked, Spoke}
use Rattle.run_drive.specs.declared.awaited.Awaited.{Awaited}
use Rattle.run_drive.specs.declared.awaited.Awaited.TheVariants as awaits
use Rattle.run_drive.specs.declared.work.Work.{Work}
use Rattle.run_drive.specs.Heard.{begun_turn, said_turn, turns_from}
use Rattle.run_drive.specs.Hearing.{GoesBy, EndsFull, IsHeardOut}
use Rattle.run_drive.specs.Driven.{OfWorker, child_turns, refused_turns, IsMerge}

-- who waits for the first hears this, and waits for the second then; with none the journal was found full
abbrev pub Reaches : Awaited → List Heard → Option Awaited → List Refusal → Type 0
Reaches a during (Some b) lost = GoesBy a during b
Reaches a during None lost = ((b : Awaited) × GoesBy a during b) × EndsFull lost

-- what is waited for where a worker goes on, and where it doesn't
abbrev pub then_awaited : Bool → Option Awaited
then_awaited true = Some awaits.Start
then_awaited false = None

-- the spawner was asked for this start, and its answer was taken or refused
pub record Begins {W : Type 0} (has_said : W → List Heard → Type 0) (w v : W) (start : StartAsk)
    (next : Option Awaited) (old new : Work) : Type 0 where
  pub mine : List Receipt
  pub lost : List Refusal
  pub taken : new.receipts ≡ old.receipts ++ mine
  pub refused : new.refused ≡ old.refused ++ lost
  pub kinds : All OfWorker mine
  pub heard : (before : List Heard) → has_said w before → (begun : Begun)
      × has_said v (before ++ Asked start begun ∷ [])
      × IsMerge (child_turns mine) (refused_turns lost) (begun_turn start.unit begun ∷ [])
      × Reaches awaits.Start (Asked start begun ∷ []) next lost

-- the spawner has said words, and each was taken or refused, as of this unit
pub record Listens {W : Type 0} (has_said : W → List Heard → Type 0) (w v : W) (unit : ℕ) (a : Awaited)
    (next : Option Awaited) (old new : Work) : Type 0 where
  pub mine : List Receipt
  pub lost : List Refusal
  pub taken : new.receipts ≡ old.receipts ++ mine
  pub refused : new.refused ≡ old.refused ++ lost
  pub kinds : All OfWorker mine
  pub heard : (before : List Heard) → has_said w before → (words : List Said)
      × has_said v (before ++ map Spoke words)
      × IsMerge (child_turns mine) (refused_turns lost) (map (said_turn unit) words)
      × Reaches a (map Spoke words) next lost

-- the spawner was asked for this start and has said words; each answer and each word was taken or refused
pub record Attends {W : Type 0} (has_said : W → List Heard → Type 0) (w v : W) (start : StartAsk) (goes_on : Bool)
    (old new : Work) : Type 0 where
  pub mine : List Receipt
  pub lost : List Refusal
  pub taken : new.receipts ≡ old.receipts ++ mine
  pub refused : new.refused ≡ old.refused ++ lost
  pub kinds : All OfWorker mine
  pub heard : (before : List Heard) → has_said w before → (begun : Begun) × (words : List Said)
      × has_said v (before ++ Asked start begun ∷ map Spoke words)
      × IsMerge (child_turns mine) (refused_turns lost)
      (begun_turn start.unit begun ∷ map (said_turn start.unit) words)
      × Reaches awaits.Start (Asked start begun ∷ map Spoke words) (then_awaited goes_on) lost

-- how far what was heard reaches: to where a start is awaited, if the worker goes on; else it is heard out
abbrev pub ReachesOn : Bool → List Heard → List Refusal → Type 0
ReachesOn true during lost = GoesBy awaits.Start during awaits.Start
ReachesOn false during lost = IsHeardOut during lost

-- the spawner was asked for starts and has said words; each answer and each word was taken or refused
pub record Works {W : Type 0} (has_said : W → List Heard → Type 0) (w v : W) (goes_on : Bool)
    (old new : Work) : Type 0 where
  pub mine : List Receipt
  pub lost : List Refusal
  pub taken : new.receipts ≡ old.receipts ++ mine
  pub refused : new.refused ≡ old.refused ++ lost
  pub kinds : All OfWorker mine
  pub heard : (before : List Heard) → has_said w before → (during : List Heard)
      × has_said v (before ++ during)
      × ((unit : ℕ) → IsMerge (child_turns mine) (refused_turns lost) (turns_from unit during))
      × ReachesOn goes_on during lost
