-- The tests that a run has, one after another.
use Rattle.std.proofs.Common.{◌≡◌, ◌∙◌, ℕ, List, [], ◌∷◌, filter, cond}
use Rattle.std.proofs.Common.{refl, ap}
use Rattle.run_events.specs.declared.plan.TestInstanceId.{TestInstanceId}
use Rattle.run_events.specs.declared.events.ReporterEvent.{ReporterEvent}
use Rattle.run_rerun.specs.declared.ledger.Ledger.{Ledger}
use Rattle.run_rerun.specs.Ledgers.{IsLedgerOf, is_marked}
use Rattle.run_rerun.specs.Outstanding.{is_told_passed}
use Rattle.run_rerun.proofs.LedgerLemmas.{marked_passed}

-- those that a ledger has marked are those that passed
pub marked_ids : (ledger : Ledger) (events : List ReporterEvent) → IsLedgerOf ledger events
    → (had : List (ℕ × TestInstanceId))
    → filter (λ t. is_marked ledger t.0) had ≡ filter (λ t. is_told_passed events t.0) had
marked_ids ledger events is [] = refl
marked_ids ledger events is (t ∷ had) =
    ap (λ ts. cond (is_marked ledger t.0) (t ∷ ts) ts) (marked_ids ledger events is had)
    ∙ ap (λ b. cond b (t ∷ filter (λ t. is_told_passed events t.0) had) (filter (λ t. is_told_passed events t.0) had))
    (marked_passed ledger events is t.0)
