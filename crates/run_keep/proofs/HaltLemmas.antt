-- How often a program was stopped.
use Rattle.std.proofs.Common.{◌≡◌, ℕ, ◌+◌, List, [], ◌∷◌, ◌++◌, length, sym, subst, ap, ◌∙◌, append_assoc, arith}
use Rattle.std.proofs.Common.{length-append}
use Rattle.std.proofs.lemmas.List.{append-nil}
use Rattle.run_shared.specs.declared.orders.Halt.{Halt}
use Rattle.run_keep.specs.Halted.{Halts, HaltsFor}

pub halts_none : {W : Type 0} (has : W → ℕ → Type 0) (w : W) (old : List Halt) → Halts has w w old old
halts_none has w old = record {
  mine = [];
  added = sym (append-nil old);
  halted = λ n h. subst (has w) (omega arith) h;
}

pub halts_one : {W : Type 0} (has : W → ℕ → Type 0) (w v : W) (old new : List Halt) (halt : Halt)
    → ((n : ℕ) → has w n → has v (n + 1)) → new ≡ old ++ halt ∷ [] → Halts has w v old new
halts_one has w v old new halt says added = record { mine = halt ∷ []; added = added; halted = says }

pub halts_more : {W : Type 0} (has : W → ℕ → Type 0) (u v w : W) (old now new : List Halt) → Halts has u v old now
    → Halts has v w now new → Halts has u w old new
halts_more has u v w old now new x y = record {
  mine = x.mine ++ y.mine;
  added = y.added ∙ ap (λ (hs : List Halt). hs ++ y.mine) x.added ∙ append_assoc old x.mine y.mine;
  halted = λ n h. subst (has w) (omega (arith, length-append x.mine y.mine))
      (y.halted (n + length x.mine) (x.halted n h));
}

pub halts_all : {W : Type 0} (has : W → ℕ → Type 0) (w v : W) (old new : List Halt) → old ≡ [] → Halts has w v old new
    → HaltsFor has w v new
halts_all has w v old new none x =
    subst (λ (hs : List Halt). HaltsFor has w v hs)
    (sym (x.added ∙ ap (λ (hs : List Halt). hs ++ x.mine) none)) x.halted
