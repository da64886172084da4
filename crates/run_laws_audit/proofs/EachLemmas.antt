-- What holds of each ended sub-run and its part holds of all that is told of a run.
use Rattle.std.proofs.Common.{◌≡◌, List, [], ◌∷◌, map, reverse, true, subst, sym}
use Rattle.std.specs.List.{All}
use Rattle.std.proofs.lemmas.List.Elements.{All-head, All-tail}
use Rattle.run_events.specs.declared.settings.Settings.{Settings}
use Rattle.run_model.specs.declared.entry.Entry.{Entry}
use Rattle.run_model.specs.declared.happening.Happening.{Happening}
use Rattle.run_model.specs.Journal.{IsLegalBackward, history}
use Rattle.run_model.specs.Words.{ended_runs, is_over, told}
use Rattle.run_audit_model.specs.Kept.{OfEachRun, Pairwise}
use Rattle.run_audit_model.specs.Seen.{as_audited}
use Rattle.run_audit_model.specs.declared.audit_event.AuditEvent.{AuditEvent}
use Rattle.run_laws_audit.specs.Within.{sub_run_part}
use Rattle.run_laws_audit.proofs.EndedLemmas.{all-reverse}
use Rattle.run_laws_audit.proofs.WholeLemmas.{parts_told}

-- what holds of each sub-run and its part holds of both lists
pairs : (p : Settings) (Keeps : List Happening → List AuditEvent → Type 0) (runs : List (List Happening))
    → All (λ run. Keeps run (sub_run_part p run)) runs → Pairwise Keeps runs (map (sub_run_part p) runs)
pairs p Keeps [] all = tt
pairs p Keeps (run ∷ runs) all = (
  All-head (λ run. Keeps run (sub_run_part p run)) run runs all,
  pairs p Keeps runs (All-tail (λ run. Keeps run (sub_run_part p run)) run runs all),
)

-- so a law of each ended sub-run and its part is kept by all that is told of a run that is over
pub of_each : (p : Settings) (Keeps : List Happening → List AuditEvent → Type 0) (backward : List Entry)
    → IsLegalBackward p backward → is_over (history p backward) ≡ true
    → All (λ run. Keeps run (sub_run_part p run)) (ended_runs (history p backward))
    → OfEachRun p (history p backward) Keeps (map as_audited (told (history p backward)))
of_each p Keeps backward legal over all =
    subst (Pairwise Keeps (reverse runs)) (sym (parts_told p backward legal over))
    (pairs p Keeps (reverse runs) (all-reverse (λ run. Keeps run (sub_run_part p run)) runs all))
  where
    runs : List (List Happening)
    runs = ended_runs (history p backward)
