-- Receipts that are put together.
use Rattle.std.proofs.Common.{◌≡◌, ℕ, suc, ◌+◌, ◌<◌, ◌≤◌, ◌⊎◌, inl, inr, List, [], ◌∷◌, ◌++◌, length, slice_index_or}
use Rattle.std.proofs.Common.{refl, ap, sym, subst, ◌∙◌, arith, length-append}
use Rattle.std.proofs.lemmas.List.{append_assoc, append-nil, get_or_append_left, length_push}
use Rattle.std.proofs.Math.Seq.{get_or-append_seam}
use Rattle.std.proofs.lemmas.Bool.{cases_lt}
use Rattle.std.proofs.lemmas.List.Sums.{sum_by_push}
use Rattle.std.specs.List.{All, sum_by}
use Rattle.run_shared.specs.declared.shared.Receipt.{Receipt}
use Rattle.run_shared.specs.declared.offered.Refusal.{Refusal}
use Rattle.run_shared.specs.Receipts.{concatenated}
use Rattle.run_drive.specs.declared.spawner.Heard.{Heard}
use Rattle.run_drive.specs.declared.work.Work.{Work}
use Rattle.run_drive.specs.Added.{IsSettled}
use Rattle.run_drive.specs.Driven.{Drives, OfTicker}
use Rattle.run_drive.specs.Ticked.{steps_in, Ticks}
use Rattle.run_drive.proofs.TickLemmas.{steps_still, steps_in-append}
use Rattle.run_live.specs.Own.{IsOwn, IsLive, IsTold, IsTicker}
use Rattle.run_live.specs.Work.{IsGathered, IsWholeWork}

-- one list of receipts more
pub joined_push : (rss : List (List Receipt)) (rs : List Receipt)
    → concatenated (rss ++ rs ∷ []) ≡ concatenated rss ++ rs
joined_push [] rs = append-nil rs
joined_push (first ∷ rest) rs = ap (λ xs. first ++ xs) (joined_push rest rs)
    ∙ sym (append_assoc first (concatenated rest) rs)

pub length-joined_push : (rss : List (List Receipt)) (rs : List Receipt)
    → length (concatenated (rss ++ rs ∷ [])) ≡ length (concatenated rss) + length rs
length-joined_push rss rs = ap length (joined_push rss rs) ∙ length-append (concatenated rss) rs

-- what a spawner that had said nothing was driven to say
pub own_of : {W : Type 0} (has_said : W → List Heard → Type 0) (w v : W) (work : Work)
    → Drives has_said w v work → has_said w [] → IsOwn has_said v work.receipts work.refused
own_of has_said w v work d at_first =
    let h = d.heard [] at_first in
    record { kinds = d.kinds; during = h.0; said = h.1; own = h.2; heard_out = h.3 }

-- what a ticker that had told nothing told behind settled turns
pub told_of : {T : Type 0} (has_told : T → List ℕ → Type 0) (t u : T) (first : List Receipt) (work : Work)
    → Ticks has_told t u first work → has_told t [] → All IsSettled first
    → IsTold has_told u work.receipts work.refused
told_of has_told t u first work x at_first settled =
    let steps : steps_in work.receipts ≡ steps_in x.mine = ap steps_in x.taken
    ∙ steps_in-append first x.mine
    ∙ ap (λ (ns : List ℕ). ns ++ steps_in x.mine) (steps_still first settled) in record {
      last = x.last;
      refused = x.refused;
      told = subst (λ (ns : List ℕ). has_told u (ns ++ x.last ∷ [])) (sym steps) (x.told [] at_first);
    }

pub gathered_none : {W : Type 0} (has_said : W → List Heard → Type 0) → IsGathered has_said [] [] [] 0 0
gathered_none has_said = record {
  lists = refl;
  refusals = refl;
  parts = refl;
  amounts = refl;
  own = λ k w rs xs below. absurd (omega arith);
}

-- the item at a place of a list with one more
pub at_front : {X : Type 0} (xs : List X) (x d : X) (k n : ℕ) → length xs ≡ n → k < n
    → slice_index_or (xs ++ x ∷ []) k d ≡ slice_index_or xs k d
at_front xs x d k n long below = get_or_append_left xs (x ∷ []) d k (omega (arith, long, below))

pub at_end : {X : Type 0} (xs : List X) (x d : X) (k n : ℕ) → length xs ≡ n → k ≡ n
    → slice_index_or (xs ++ x ∷ []) k d ≡ x
at_end xs x d k n long at =
    ap (λ i. slice_index_or (xs ++ x ∷ []) i d) (at ∙ sym long) ∙ get_or-append_seam xs x [] d

-- each worker with its receipts and its refusals, with one more
own_push : {W : Type 0} (has_said : W → List Heard → Type 0) (ws : List W) (rss : List (List Receipt))
    (xss : List (List Refusal)) (v : W) (new : List Receipt) (lost : List Refusal) (k : ℕ) (w : W) (rs : List Receipt)
    (xs : List Refusal) → length rss ≡ length ws → length xss ≡ length ws
    → ((i : ℕ) (x : W) (ys : List Receipt) (zs : List Refusal) → i < length ws
    → IsOwn has_said (slice_index_or ws i x) (slice_index_or rss i ys) (slice_index_or xss i zs))
    → IsOwn has_said v new lost → (k < length ws) ⊎ (k ≡ length ws)
    → IsOwn has_said (slice_index_or (ws ++ v ∷ []) k w) (slice_index_or (rss ++ new ∷ []) k rs)
    (slice_index_or (xss ++ lost ∷ []) k xs)
own_push has_said ws rss xss v new lost k w rs xs same too before here (inl below) =
    rw (
      at_front ws v w k (length ws) refl below,
      at_front rss new rs k (length ws) same below,
      at_front xss lost xs k (length ws) too below,
    ) (before k w rs xs below)
own_push has_said ws rss xss v new lost k w rs xs same too before here (inr at) =
    rw (
      at_end ws v w k (length ws) refl at,
      at_end rss new rs k (length ws) same at,
      at_end xss lost xs k (length ws) too at,
    ) here

pub last_or : (k n : ℕ) → k < n + 1 → (k < n) ⊎ (k ≡ n)
last_or k n below = cases (cases_lt k n)
  where
    cases : (k < n) ⊎ (n ≤ k) → (k < n) ⊎ (k ≡ n)
    cases (inl low) = inl low
    cases (inr high) = inr (omega arith)

pub gathered_more : {W : Type 0} (has_said : W → List Heard → Type 0) (ws : List W) (rss : List (List Receipt))
    (xss : List (List Refusal)) (parts amount : ℕ) (w : W) (rs : List Receipt) (xs : List Refusal)
    → IsGathered has_said ws rss xss parts amount → IsOwn has_said w rs xs
    → IsGathered has_said (ws ++ w ∷ []) (rss ++ rs ∷ []) (xss ++ xs ∷ []) (parts + 1) (amount + length rs)
gathered_more has_said ws rss xss parts amount w rs xs g own = record {
  lists = omega (arith, length_push rss rs, length_push ws w, g.lists);
  refusals = omega (arith, length_push xss xs, length_push ws w, g.refusals);
  parts = omega (arith, length_push ws w, g.parts);
  amounts = omega (arith, length-joined_push rss rs, g.amounts);
  own = λ k x ys zs below. own_push has_said ws rss xss w rs xs k x ys zs g.lists g.refusals g.own own
      (last_or k (length ws) (omega (arith, length_push ws w)));
}

pub whole_of : {W : Type 0} (has_said : W → List Heard → Type 0) (ws : List W) (rss : List (List Receipt))
    (xss : List (List Refusal)) (parts amount : ℕ) (rs : List Receipt) (xs : List Refusal)
    → IsGathered has_said ws rss xss parts amount → All OfTicker rs
    → IsWholeWork has_said ws (rss ++ rs ∷ []) (xss ++ xs ∷ []) (parts + 1) (amount + length rs)
whole_of has_said ws rss xss parts amount rs xs g ticks = record {
  live = record {
    lists = omega (arith, length_push rss rs, g.lists);
    refusals = omega (arith, length_push xss xs, g.refusals);
    own = λ k w ys zs below. rw (
      at_front rss rs ys k (length ws) g.lists below,
      at_front xss xs zs k (length ws) g.refusals below,
    ) (g.own k w ys zs below);
    ticks = λ ys. subst (λ (rs : List Receipt). All OfTicker rs)
        (sym (at_end rss rs ys (length ws) (length ws) g.lists refl)) ticks;
  };
  parts = omega (arith, g.parts);
  amounts = omega (arith, length-joined_push rss rs, g.amounts);
}

-- the ticker's lists stand behind those of the workers
pub ticker_of : {T : Type 0} (has_told : T → List ℕ → Type 0) (t : T) (count : ℕ) (rss : List (List Receipt))
    (xss : List (List Refusal)) (rs : List Receipt) (xs : List Refusal) → length rss ≡ count → length xss ≡ count
    → IsTold has_told t rs xs → IsTicker has_told t count (rss ++ rs ∷ []) (xss ++ xs ∷ [])
ticker_of has_told t count rss xss rs xs same too told = λ ys zs.
    rw (at_end rss rs ys count count same refl, at_end xss xs zs count count too refl) told

-- the same, where the share that is put beside the others has one part and has counted the receipts
pub gathered_push : {W S : Type 0} (has_said : W → List Heard → Type 0) (parts_of amount_of : S → ℕ) (ws : List W)
    (rss : List (List Receipt)) (xss : List (List Refusal)) (ss : List S) (w : W) (rs : List Receipt)
    (xs : List Refusal) (s : S) → parts_of s ≡ 1 → amount_of s ≡ length rs
    → IsGathered has_said ws rss xss (sum_by parts_of ss) (sum_by amount_of ss) → IsOwn has_said w rs xs
    → IsGathered has_said (ws ++ w ∷ []) (rss ++ rs ∷ []) (xss ++ xs ∷ []) (sum_by parts_of (ss ++ s ∷ []))
    (sum_by amount_of (ss ++ s ∷ []))
gathered_push has_said parts_of amount_of ws rss xss ss w rs xs s one rose g own =
    rw (sum_by_push parts_of ss s, sum_by_push amount_of ss s, one, rose)
    (gathered_more has_said ws rss xss (sum_by parts_of ss) (sum_by amount_of ss) w rs xs g own)

pub whole_push : {W S : Type 0} (has_said : W → List Heard → Type 0) (parts_of amount_of : S → ℕ) (ws : List W)
    (rss : List (List Receipt)) (xss : List (List Refusal)) (ss : List S) (rs : List Receipt) (xs : List Refusal)
    (s : S) → parts_of s ≡ 1 → amount_of s ≡ length rs
    → IsGathered has_said ws rss xss (sum_by parts_of ss) (sum_by amount_of ss) → All OfTicker rs
    → IsWholeWork has_said ws (rss ++ rs ∷ []) (xss ++ xs ∷ []) (sum_by parts_of (ss ++ s ∷ []))
    (sum_by amount_of (ss ++ s ∷ []))
whole_push has_said parts_of amount_of ws rss xss ss rs xs s one rose g ticks =
    rw (sum_by_push parts_of ss s, sum_by_push amount_of ss s, one, rose)
    (whole_of has_said ws rss xss (sum_by parts_of ss) (sum_by amount_of ss) rs xs g ticks)

-- what holds of each item holds of those behind the first
pub all_after : {X : Type 0} (P : X → Type 0) (xs ys : List X) (x : X) → xs ≡ x ∷ ys → All P xs → All P ys
all_after P xs ys x e h = λ k d below. subst (All P) e h (suc k) d (omega arith)
