-- What the receipts of a run's workers, of its ticker and of its listener say.
use Rattle.std.specs.Prelude.{ℕ, ◌≡◌, ◌+◌, ◌<◌, List, [], ◌∷◌, ◌++◌, length, slice_index_or, Bool, true, false}
use Rattle.std.specs.Prelude.{Option, None}
use Rattle.std.specs.List.{All, list_any}
use Rattle.run_events.specs.declared.plan.Hearing.{Hearing}
use Rattle.run_events.specs.declared.turn.Turn.TheVariants as turns
use Rattle.run_shared.specs.declared.shared.Receipt.{Receipt}
use Rattle.run_shared.specs.declared.offered.Refusal.{Refusal}
use Rattle.run_shared.specs.declared.offered.RefusalKind.{RefusalKind}
use Rattle.run_shared.specs.declared.offered.RefusalKind.TheVariants.{ThirdSignal}
use Rattle.run_shared.specs.declared.orders.Order.{Order}
use Rattle.run_drive.specs.Driven.{OfWorker, child_turns, refused_turns, IsMerge}
use Rattle.run_drive.specs.Ticked.{steps_in}
use Rattle.run_keep.specs.declared.keeper.Heard.{Heard}
use Rattle.run_keep.specs.declared.listened.Dropped.{Dropped}
use Rattle.run_keep.specs.declared.outside.Came.{Came}
use Rattle.run_keep.specs.Minded.{IsUnwritten, Minds, Rises, turns_heard, signals_ordered, signals_told}
use Rattle.run_keep.specs.declared.listened.Dropped.TheVariants.{Unheard, Refused}
use Rattle.run_keep.specs.Rounds.{OfRounds}
use Rattle.run_keep.specs.Listened.{OfListener, IsDropped, outside_turns, dropped_turns, turns_come}

-- these are a worker's receipts, refusals and orders: each thing that its keeper was asked and said was taken or
-- refused, in that order, and refused was nothing that a child wrote; each signal was sent while its unit's child ran,
-- or was late; and those are the signals of the orders, whose places rise
pub record IsKeeperWork {W : Type 0} (has_heard : W → List Heard → Type 0) (w : W) (rs : List Receipt)
    (xs : List Refusal) (os : List Order) : Type 0 where
  pub kinds : All OfWorker rs
  pub unwritten : All IsUnwritten xs
  pub end : ℕ
  pub rises : Rises 0 os end
  pub during : List Heard
  pub heard : has_heard w during
  pub child : Option (ℕ × Bool)
  pub minds : Minds None during child
  pub own : IsMerge (child_turns rs) (refused_turns xs) (turns_heard None during)
  pub told : signals_ordered os ≡ signals_told during

-- each worker has its list of receipts, of refusals and of orders, at its place; behind its receipts stand those of the
-- ticker, and then those of the listener
pub record AreAllKept {W : Type 0} (has_heard : W → List Heard → Type 0) (ws : List W) (rss : List (List Receipt))
    (xss : List (List Refusal)) (oss : List (List Order)) : Type 0 where
  pub lists : length rss ≡ length ws + 2
  pub refusals : length xss ≡ length ws
  pub orders : length oss ≡ length ws
  pub own : (k : ℕ) (w : W) (rs : List Receipt) (xs : List Refusal) (os : List Order) → k < length ws
      → IsKeeperWork has_heard (slice_index_or ws k w) (slice_index_or rss k rs) (slice_index_or xss k xs)
      (slice_index_or oss k os)

-- a ticker of rounds has told the steps of these receipts, in their order, and one more, which was refused
pub record HasToldSteps {T : Type 0} (has_told : T → List ℕ → Type 0) (t : T) (rs : List Receipt) (x : Refusal)
    : Type 0 where
  pub kinds : All OfRounds rs
  pub last : ℕ
  pub refused : x.turn ≡ turns.Clock last
  pub told : has_told t (steps_in rs ++ last ∷ [])

-- all that came from outside was taken, with these receipts, or dropped, in that order; and dropped was what the run
-- doesn't hear or refused
pub record HasHeardAll {O : Type 0} (has_come : O → List Came → Type 0) (hearing : Hearing) (o : O) (rs : List Receipt)
    (xs : List Dropped) : Type 0 where
  pub kinds : All OfListener rs
  pub reasons : All (IsDropped hearing) xs
  pub during : List Came
  pub came : has_come o during
  pub order : IsMerge (outside_turns rs) (dropped_turns xs) (turns_come during)

-- the receipts of the ticker stand at this place
abbrev pub IsTickerWork : {T : Type 0} → (T → List ℕ → Type 0) → T → ℕ → List (List Receipt) → Refusal → Type 0
IsTickerWork has_told t place rss x = (rs : List Receipt) → HasToldSteps has_told t (slice_index_or rss place rs) x

-- whether what was dropped is a third shutdown signal that the run refused
abbrev pub is_third_kind : RefusalKind → Bool
is_third_kind ThirdSignal = true
is_third_kind _ = false

abbrev pub is_third_dropped : Dropped → Bool
is_third_dropped (Unheard what) = false
is_third_dropped (Refused refusal) = is_third_kind refusal.kind

-- the receipts of the listener stand at this place, and the run refused no third shutdown signal
pub record IsListenerWork {O : Type 0} (has_come : O → List Came → Type 0) (hearing : Hearing) (o : O) (place : ℕ)
    (rss : List (List Receipt)) (xs : List Dropped) : Type 0 where
  pub calm : list_any is_third_dropped xs ≡ false
  pub heard : (rs : List Receipt) → HasHeardAll has_come hearing o (slice_index_or rss place rs) xs
