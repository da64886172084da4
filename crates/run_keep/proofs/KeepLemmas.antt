-- A worker that attends to a start.
use Rattle.std.proofs.Common.{◌≡◌, ℕ, ◌≤◌, List, Bool, true, false, Option, Some, subst, rules}
use Rattle.run_keep.specs.declared.keeper.Heard.{Heard}
use Rattle.run_keep.specs.declared.kept.Kept.{Kept}
use Rattle.run_keep.specs.Minded.{Tends, Minded, runs}
use Rattle.run_keep.proofs.MindLemmas.{minded_more, minded_quiet}

-- asks were passed over, and then the worker went on so
minded_over : {W : Type 0} (has : W → List Heard → Type 0) (w v : W) (a b : Option (ℕ × Bool)) (old now new : Kept)
    → now.receipts ≡ old.receipts → now.lost ≡ old.lost → now.orders ≡ old.orders → old.from ≤ now.from
    → Minded has w v a b now new → Minded has w v a b old new
minded_over has w v a b old now new receipts lost orders later m =
    minded_more has w w v a a b old now new
    (minded_quiet has w w a old now (λ xs h. h) receipts lost orders later) m

-- the run was done before the child's end
pub attends_left : {W : Type 0} (has : W → List Heard → Type 0) (w v : W) (unit : ℕ) (on : Bool)
    (old now new : Kept) → now.receipts ≡ old.receipts → now.lost ≡ old.lost → now.orders ≡ old.orders
    → old.from ≤ now.from
    → ((child : Option (ℕ × Bool)) → runs child ≡ false → Minded has w v child (Some (unit, on)) now new)
    → Tends has w v false old new
attends_left has w v unit on old now new receipts lost orders later each = record {
  each = λ child idle. (
    Some (unit, on),
    λ (no : false ≡ true). search rules,
    minded_over has w v child (Some (unit, on)) old now new receipts lost orders later (each child idle),
  );
}

-- the child has ended, and what was left was done
pub attends_closed : {W : Type 0} (has : W → List Heard → Type 0) (u v w : W) (unit : ℕ) (on : Bool)
    (old now then new : Kept) → now.receipts ≡ old.receipts → now.lost ≡ old.lost → now.orders ≡ old.orders
    → old.from ≤ now.from
    → ((child : Option (ℕ × Bool)) → runs child ≡ false → Minded has u v child (Some (unit, on)) now then)
    → on ≡ false → Minded has v w (Some (unit, false)) (Some (unit, false)) then new → Tends has u w true old new
attends_closed has u v w unit on old now then new receipts lost orders later each off closed = record {
  each = λ child idle.
      let child_ended : Option (ℕ × Bool) = Some (unit, false) in
      let first = subst (λ (b : Bool). Minded has u v child (Some (unit, b)) now then) off (each child idle) in (
        child_ended,
        λ yes. search rules,
        minded_over has u w child child_ended old now new receipts lost orders later
            (minded_more has u v w child child_ended child_ended now then new first closed),
      );
}
