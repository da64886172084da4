-- What the receipts and the refusals of a run's workers and of its ticker say.
use Rattle.std.specs.Prelude.{ℕ, ◌≡◌, ◌+◌, ◌<◌, List, [], ◌∷◌, ◌++◌, length, slice_index_or}
use Rattle.std.specs.List.{All}
use Rattle.run_shared.specs.declared.shared.Receipt.{Receipt}
use Rattle.run_shared.specs.declared.offered.Refusal.{Refusal}
use Rattle.run_drive.specs.declared.spawner.Heard.{Heard}
use Rattle.run_drive.specs.Heard.{turns_from}
use Rattle.run_drive.specs.Hearing.{IsHeardOut}
use Rattle.run_drive.specs.Driven.{OfWorker, OfTicker, child_turns, refused_turns, IsMerge}
use Rattle.run_drive.specs.Ticked.{steps_in, RefusesStep}

-- these are a worker's receipts and refusals: each thing that its spawner was asked and said was offered, in that
-- order, and taken or refused; and each child was heard out
pub record IsOwn {W : Type 0} (has_said : W → List Heard → Type 0) (w : W) (rs : List Receipt) (xs : List Refusal)
    : Type 0 where
  pub kinds : All OfWorker rs
  pub during : List Heard
  pub said : has_said w during
  pub own : IsMerge (child_turns rs) (refused_turns xs) (turns_from 0 during)
  pub heard_out : IsHeardOut during xs

-- each worker has its list of receipts and its list of refusals, at its place, and behind them are those of the ticker
pub record IsLive {W : Type 0} (has_said : W → List Heard → Type 0) (ws : List W)
    (rss : List (List Receipt)) (xss : List (List Refusal)) : Type 0 where
  pub lists : length rss ≡ length ws + 1
  pub refusals : length xss ≡ length ws + 1
  pub own : (k : ℕ) (w : W) (rs : List Receipt) (xs : List Refusal) → k < length ws
      → IsOwn has_said (slice_index_or ws k w) (slice_index_or rss k rs) (slice_index_or xss k xs)
  pub ticks : (rs : List Receipt) → All OfTicker (slice_index_or rss (length ws) rs)

-- a ticker has told the steps of these receipts, in their order, and one more, which was refused
pub record IsTold {T : Type 0} (has_told : T → List ℕ → Type 0) (t : T) (rs : List Receipt) (xs : List Refusal)
    : Type 0 where
  pub last : ℕ
  pub refused : RefusesStep last xs
  pub told : has_told t (steps_in rs ++ last ∷ [])

-- those of the ticker stand behind those of so many workers
abbrev pub IsTicker : {T : Type 0} → (T → List ℕ → Type 0) → T → ℕ → List (List Receipt) → List (List Refusal)
    → Type 0
IsTicker has_told t count rss xss = (rs : List Receipt) (xs : List Refusal)
    → IsTold has_told t (slice_index_or rss count rs) (slice_index_or xss count xs)
