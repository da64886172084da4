-- A keeper that is told of a signal.
use Rattle.std.proofs.Common.{◌≡◌, ℕ, ◌+◌, ◌≤◌, List, [], ◌∷◌, ◌++◌, Bool, true, false, Option, Some, refl, sym}
use Rattle.std.proofs.Common.{subst, ◌∙◌, arith}
use Rattle.std.proofs.lemmas.List.{append-nil}
use Rattle.std.proofs.lemmas.List.Elements.{All-nil}
use Rattle.run_events.specs.declared.ask.SignalAsk.{SignalAsk}
use Rattle.run_shared.specs.declared.orders.Order.{Order}
use Rattle.run_drive.specs.Driven.{OfWorker, IsMerge}
use Rattle.run_keep.specs.declared.keeper.Heard.{Heard}
use Rattle.run_keep.specs.declared.keeper.Heard.TheVariants.{Told, Late}
use Rattle.run_keep.specs.declared.keeper.Sent.{Sent}
use Rattle.run_keep.specs.declared.kept.Kept.{Kept}
use Rattle.run_keep.specs.Minded.{IsUnwritten, Minded, TellsSignal}
use Rattle.run_keep.proofs.MindLemmas.{minded_one, minded_quiet}

-- of a signal that was sent, and of one that was late
pub tells_sent : {W : Type 0} (has : W → List Heard → Type 0) (w v : W) (ask : SignalAsk) (sent : Sent)
    → ((xs : List Heard) → has w xs → has v (xs ++ Told ask sent ∷ []))
    → TellsSignal has w v (Some (ask.unit, true)) ask
tells_sent has w v ask sent says = record { told = (Told ask sent, says, refl, refl, refl, refl) }

pub tells_late : {W : Type 0} (has : W → List Heard → Type 0) (w v : W) (ask : SignalAsk)
    → ((xs : List Heard) → has w xs → has v (xs ++ Late ask ∷ [])) → TellsSignal has w v (Some (ask.unit, false)) ask
tells_late has w v ask says = record { told = (Late ask, says, refl, refl, refl, refl) }

-- an order was handed on
pub minded_order : {W : Type 0} (has : W → List Heard → Type 0) (w v : W) (unit : ℕ) (runs : Bool) (order : Order)
    (old new : Kept) → order.ask.unit ≡ unit → old.from ≤ order.place → new.from ≡ order.place + 1
    → TellsSignal has w v (Some (order.ask.unit, runs)) order.ask → new.receipts ≡ old.receipts → new.lost ≡ old.lost
    → new.orders ≡ old.orders ++ order ∷ []
    → Minded has w v (Some (unit, runs)) (Some (unit, runs)) old new
minded_order has w v unit runs order old new same later behind t receipts lost orders =
    let child : Option (ℕ × Bool) = Some (order.ask.unit, runs) in
    let one = minded_one has w v child t.told.0 old new [] [] (order ∷ [])
    (receipts ∙ sym (append-nil old.receipts)) (lost ∙ sym (append-nil old.lost)) orders
    (later, omega (arith, behind)) (All-nil OfWorker) (All-nil IsUnwritten) t.told.1 t.told.2
    (subst (IsMerge [] []) (sym t.told.4) (refl, refl)) (sym t.told.5) in
    let mine = subst (λ (last : Option (ℕ × Bool)). Minded has w v child last old new) t.told.3 one in
    subst (λ (n : ℕ). Minded has w v (Some (n, runs)) (Some (n, runs)) old new) same mine

-- none was asked
pub minded_later : {W : Type 0} (has : W → List Heard → Type 0) (w : W) (child : Option (ℕ × Bool)) (old new : Kept)
    → new.receipts ≡ old.receipts → new.lost ≡ old.lost → new.orders ≡ old.orders → old.from ≤ new.from
    → Minded has w w child child old new
minded_later has w child old new receipts lost orders later =
    minded_quiet has w w child old new (λ xs h. h) receipts lost orders later
