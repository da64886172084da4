-- Receipts of a run: what it means that they are those of a journal, and what is wrong with them.
use Rattle.std.specs.Prelude.{ℕ, ◌≡◌, ◌≢◌, ◌<◌, ◌≤◌, ◌==◌, List, [], ◌∷◌, ◌++◌, length, map, Bool, false, Option, Some}
use Rattle.std.specs.Prelude.{option_map, slice_get, slice_index_or, cond}
use Rattle.std.specs.List.{All, Contains, count_by}
use Rattle.run_events.specs.declared.turn.Turn.{Turn}
use Rattle.run_model.specs.declared.entry.Entry.{Entry}
use Rattle.run_model.specs.Words.{times}
use Rattle.run_shared.specs.declared.shared.Receipt.{Receipt}
use Rattle.run_shared.specs.declared.closing.CloseKind.{CloseKind}
use Rattle.run_shared.specs.declared.closing.CloseKind.TheVariants.{OtherSettings, Mismatch, Repeated, OutOfMemory}

-- lists one after another
abbrev pub concatenated : {X : Type 0} → List (List X) → List X
concatenated [] = []
concatenated (xs ∷ rest) = xs ++ concatenated rest

-- the numbers of receipts
abbrev pub receipt_numbers : List Receipt → List ℕ
receipt_numbers rs = map (λ (r : Receipt). r.number) rs

abbrev pub bit : Bool → ℕ
bit b = cond b 1 0

-- the turn that a journal has at a number
abbrev pub turn_at : List Entry → ℕ → Option Turn
turn_at journal n = option_map (λ (e : Entry). e.turn) (slice_get journal n)

-- the journal has the receipt's turn at its number
abbrev pub StandsIn : List Entry → Receipt → Type 0
StandsIn journal r = turn_at journal r.number ≡ Some r.turn

-- the flags say how often each number was seen, which is once at most
pub record Marks (seen : List Bool) (ns : List ℕ) : Type 0 where
  pub each : (k : ℕ) → times k ns ≡ bit (slice_index_or seen k false)
  pub count : count_by (λ b. b) seen ≡ length ns

-- these receipts stand in the journal, and their numbers were flagged
pub record Looked (journal : List Entry) (seen now : List Bool) (rs : List Receipt) : Type 0 where
  pub stands : All (StandsIn journal) rs
  pub marked : (ns : List ℕ) → Marks seen ns → Marks now (ns ++ receipt_numbers rs)

-- what is wrong with receipts, where these numbers were looked at before them
abbrev pub IsFault : List Entry → List ℕ → List Receipt → CloseKind → Type 0
IsFault journal before rs (OtherSettings given kept) = ⊥
IsFault journal before rs (Mismatch number receipt found) =
    Contains rs (record { number = number; turn = receipt }) × (found ≡ turn_at journal number)
    × (found ≢ Some receipt)
IsFault journal before rs (Repeated number) = 2 ≤ times number (before ++ receipt_numbers rs)
IsFault journal before rs OutOfMemory = Unit {0}

-- the same after any numbers that the flags say
abbrev pub HasFault : List Entry → List Bool → List Receipt → CloseKind → Type 0
HasFault journal seen rs e = (ns : List ℕ) → Marks seen ns → IsFault journal ns rs e

-- each receipt stands in the journal, no number comes twice, and where there are as many receipts as turns, each turn
-- has one
pub record Closes (journal : List Entry) (rs : List Receipt) : Type 0 where
  pub stands : All (StandsIn journal) rs
  pub apart : (k : ℕ) → times k (receipt_numbers rs) ≤ 1
  pub once : length rs ≡ length journal → (k : ℕ) → k < length journal → times k (receipt_numbers rs) ≡ 1
