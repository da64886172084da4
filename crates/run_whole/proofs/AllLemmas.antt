-- What all threads leave, put together.
use Rattle.std.proofs.Common.{◌≡◌, ℕ, ◌+◌, ◌<◌, ◌⊎◌, inl, inr, List, [], ◌∷◌, ◌++◌, length, slice_index_or}
use Rattle.std.proofs.Common.{false, refl, sym, subst, arith}
use Rattle.std.proofs.lemmas.List.{length_push}
use Rattle.std.proofs.lemmas.List.Sums.{sum_by_push}
use Rattle.std.specs.List.{list_any, sum_by}
use Rattle.run_events.specs.declared.plan.Hearing.{Hearing}
use Rattle.run_shared.specs.declared.shared.Receipt.{Receipt}
use Rattle.run_shared.specs.declared.offered.Refusal.{Refusal}
use Rattle.run_shared.specs.declared.orders.Order.{Order}
use Rattle.run_shared.specs.Receipts.{concatenated}
use Rattle.run_keep.specs.declared.keeper.Heard.{Heard}
use Rattle.run_keep.specs.declared.listened.Dropped.{Dropped}
use Rattle.run_keep.specs.declared.outside.Came.{Came}
use Rattle.run_live.proofs.GatherLemmas.{length-joined_push, at_front, at_end, last_or}
use Rattle.run_whole.specs.Own.{IsKeeperWork, HasToldSteps, HasHeardAll, IsTickerWork, IsListenerWork, AreAllKept}
use Rattle.run_whole.specs.Own.{is_third_dropped}
use Rattle.run_whole.specs.Work.{IsCollected}

pub gathered_none : {W : Type 0} (has_heard : W → List Heard → Type 0) → IsCollected has_heard [] [] [] [] 0 0 0
gathered_none has_heard = record {
  lists = refl;
  refusals = refl;
  orders = refl;
  parts = refl;
  amounts = refl;
  own = λ k w rs xs os below. absurd (omega arith);
}

-- each worker with its receipts, its refusals and its orders, with one more
own_push : {W : Type 0} (has_heard : W → List Heard → Type 0) (ws : List W) (rss : List (List Receipt))
    (xss : List (List Refusal)) (oss : List (List Order)) (v : W) (new : List Receipt) (lost : List Refusal)
    (handed : List Order) (k : ℕ) (w : W) (rs : List Receipt) (xs : List Refusal) (os : List Order)
    → length rss ≡ length ws → length xss ≡ length ws → length oss ≡ length ws
    → ((i : ℕ) (x : W) (ys : List Receipt) (zs : List Refusal) (qs : List Order) → i < length ws
    → IsKeeperWork has_heard (slice_index_or ws i x) (slice_index_or rss i ys) (slice_index_or xss i zs)
    (slice_index_or oss i qs))
    → IsKeeperWork has_heard v new lost handed → (k < length ws) ⊎ (k ≡ length ws)
    → IsKeeperWork has_heard (slice_index_or (ws ++ v ∷ []) k w) (slice_index_or (rss ++ new ∷ []) k rs)
    (slice_index_or (xss ++ lost ∷ []) k xs) (slice_index_or (oss ++ handed ∷ []) k os)
own_push has_heard ws rss xss oss v new lost handed k w rs xs os same too three before here (inl below) =
    rw (
      at_front ws v w k (length ws) refl below,
      at_front rss new rs k (length ws) same below,
      at_front xss lost xs k (length ws) too below,
      at_front oss handed os k (length ws) three below,
    ) (before k w rs xs os below)
own_push has_heard ws rss xss oss v new lost handed k w rs xs os same too three before here (inr at) =
    rw (
      at_end ws v w k (length ws) refl at,
      at_end rss new rs k (length ws) same at,
      at_end xss lost xs k (length ws) too at,
      at_end oss handed os k (length ws) three at,
    ) here

gathered_more : {W : Type 0} (has_heard : W → List Heard → Type 0) (ws : List W) (rss : List (List Receipt))
    (xss : List (List Refusal)) (oss : List (List Order)) (parts amount : ℕ) (w : W) (rs : List Receipt)
    (xs : List Refusal) (os : List Order) → IsCollected has_heard ws rss xss oss 0 parts amount
    → IsKeeperWork has_heard w rs xs os
    → IsCollected has_heard (ws ++ w ∷ []) (rss ++ rs ∷ []) (xss ++ xs ∷ []) (oss ++ os ∷ []) 0 (parts + 1)
    (amount + length rs)
gathered_more has_heard ws rss xss oss parts amount w rs xs os g own =
    let same : length rss ≡ length ws = omega (arith, g.lists) in record {
      lists = omega (arith, length_push rss rs, length_push ws w, g.lists);
      refusals = omega (arith, length_push xss xs, length_push ws w, g.refusals);
      orders = omega (arith, length_push oss os, length_push ws w, g.orders);
      parts = omega (arith, length_push ws w, g.parts);
      amounts = omega (arith, length-joined_push rss rs, g.amounts);
      own = λ k x ys zs qs below. own_push has_heard ws rss xss oss w rs xs os k x ys zs qs same g.refusals g.orders
          g.own own (last_or k (length ws) (omega (arith, length_push ws w)));
    }

-- the same, where the share that is put beside the others has one part and has counted the receipts
pub gathered_push : {W S : Type 0} (has_heard : W → List Heard → Type 0) (parts_of amount_of : S → ℕ) (ws : List W)
    (rss : List (List Receipt)) (xss : List (List Refusal)) (oss all : List (List Order)) (ss : List S) (w : W)
    (rs : List Receipt) (xs : List Refusal) (os : List Order) (s : S) → parts_of s ≡ 1 → amount_of s ≡ length rs
    → all ≡ oss ++ os ∷ []
    → IsCollected has_heard ws rss xss oss 0 (sum_by parts_of ss) (sum_by amount_of ss)
    → IsKeeperWork has_heard w rs xs os
    → IsCollected has_heard (ws ++ w ∷ []) (rss ++ rs ∷ []) (xss ++ xs ∷ []) all 0
    (sum_by parts_of (ss ++ s ∷ [])) (sum_by amount_of (ss ++ s ∷ []))
gathered_push has_heard parts_of amount_of ws rss xss oss all ss w rs xs os s one rose ordered g own =
    rw (ordered, sum_by_push parts_of ss s, sum_by_push amount_of ss s, one, rose)
    (gathered_more has_heard ws rss xss oss (sum_by parts_of ss) (sum_by amount_of ss) w rs xs os g own)

-- a list of receipts behind those of the workers
gathered_beside : {W : Type 0} (has_heard : W → List Heard → Type 0) (ws : List W) (rss : List (List Receipt))
    (xss : List (List Refusal)) (oss : List (List Order)) (more parts amount : ℕ) (rs : List Receipt)
    → IsCollected has_heard ws rss xss oss more parts amount
    → IsCollected has_heard ws (rss ++ rs ∷ []) xss oss (more + 1) (parts + 1) (amount + length rs)
gathered_beside has_heard ws rss xss oss more parts amount rs g = record {
  lists = omega (arith, length_push rss rs, g.lists);
  refusals = g.refusals;
  orders = g.orders;
  parts = omega (arith, g.parts);
  amounts = omega (arith, length-joined_push rss rs, g.amounts);
  own = λ k w ys zs qs below. rw (at_front rss rs ys k (length rss) refl (omega (arith, g.lists, below)))
      (g.own k w ys zs qs below);
}

pub beside_push : {W S : Type 0} (has_heard : W → List Heard → Type 0) (parts_of amount_of : S → ℕ) (ws : List W)
    (rss : List (List Receipt)) (xss : List (List Refusal)) (oss : List (List Order)) (ss : List S) (more : ℕ)
    (rs : List Receipt) (s : S) → parts_of s ≡ 1 → amount_of s ≡ length rs
    → IsCollected has_heard ws rss xss oss more (sum_by parts_of ss) (sum_by amount_of ss)
    → IsCollected has_heard ws (rss ++ rs ∷ []) xss oss (more + 1) (sum_by parts_of (ss ++ s ∷ []))
    (sum_by amount_of (ss ++ s ∷ []))
beside_push has_heard parts_of amount_of ws rss xss oss ss more rs s one rose g =
    rw (sum_by_push parts_of ss s, sum_by_push amount_of ss s, one, rose)
    (gathered_beside has_heard ws rss xss oss more (sum_by parts_of ss) (sum_by amount_of ss) rs g)

-- the ticker's receipts stand behind those of the workers
pub ticker_of : {T : Type 0} (has_told : T → List ℕ → Type 0) (t : T) (place : ℕ) (rss : List (List Receipt))
    (rs : List Receipt) (x : Refusal) → length rss ≡ place → HasToldSteps has_told t rs x
    → IsTickerWork has_told t place (rss ++ rs ∷ []) x
ticker_of has_told t place rss rs x same told = λ ys. rw (at_end rss rs ys place place same refl) told

-- the listener's receipts stand behind those of the ticker
pub listener_of : {O : Type 0} (has_come : O → List Came → Type 0) (hearing : Hearing) (o : O) (place : ℕ)
    (rss : List (List Receipt)) (rs : List Receipt) (xs : List Dropped) → length rss ≡ place
    → HasHeardAll has_come hearing o rs xs → list_any is_third_dropped xs ≡ false
    → IsListenerWork has_come hearing o place (rss ++ rs ∷ []) xs
listener_of has_come hearing o place rss rs xs same heard calm = record {
  calm = calm;
  heard = λ ys. rw (at_end rss rs ys place place same refl) heard;
}

-- what was gathered of all threads is whole
pub whole_of : {W : Type 0} (has_heard : W → List Heard → Type 0) (ws : List W) (rss : List (List Receipt))
    (xss : List (List Refusal)) (oss : List (List Order)) (parts amount : ℕ)
    → IsCollected has_heard ws rss xss oss 2 parts amount → AreAllKept has_heard ws rss xss oss
whole_of has_heard ws rss xss oss parts amount g = record {
  lists = g.lists;
  refusals = g.refusals;
  orders = g.orders;
  own = g.own;
}
