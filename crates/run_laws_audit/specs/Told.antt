-- That what is told of a run that is over keeps the laws of an auditor.
use Rattle.std.specs.Prelude.{◌≡◌, List, map, length, reverse, true}
use Rattle.std.specs.List.{All, IsDistinct}
use Rattle.run_events.specs.declared.settings.Settings.{Settings}
use Rattle.run_model.specs.declared.entry.Entry.{Entry}
use Rattle.run_model.specs.declared.happening.Happening.{Happening}
use Rattle.run_model.specs.Journal.{IsLegal, past_of}
use Rattle.run_model.specs.Reruns.{is_one_test}
use Rattle.run_model.specs.Words.{ended_runs, is_over, told}
use Rattle.run_audit_model.specs.Kept.{KeepsRun, OfEachRun}
use Rattle.run_audit_model.specs.Parts.{HasShape, parts}
use Rattle.run_audit_model.specs.Seen.{as_audited}
use Rattle.run_audit_model.specs.SeenCancels.{KeepsCancels}
use Rattle.run_audit_model.specs.SeenLimits.{KeepsTold}
use Rattle.run_audit_model.specs.SeenScripts.{KeepsScripts}
use Rattle.run_audit_model.specs.SeenTests.{KeepsAccounts}
use Rattle.run_audit_model.specs.declared.audit_event.AuditEvent.{AuditEvent}
use Rattle.run_laws_audit.specs.Plain.{ArePlainTold}
use Rattle.run_laws_audit.specs.Within.{sub_run_part}

-- what is told of a history, as an auditor sees it
abbrev pub told_seen : List Happening → List AuditEvent
told_seen past = map as_audited (told past)

-- after every legal journal whose run is over that has the shape of its run
abbrev pub ShapesAreKept : Type 0
ShapesAreKept = (p : Settings) (journal : List Entry) → IsLegal p journal → is_over (past_of p journal) ≡ true
    → HasShape p (length (ended_runs (past_of p journal))) (told_seen (past_of p journal))

-- its parts are those of its sub-runs
abbrev pub PartsAreSubRuns : Type 0
PartsAreSubRuns = (p : Settings) (journal : List Entry) → IsLegal p journal → is_over (past_of p journal) ≡ true
    → parts p (told_seen (past_of p journal)) ≡ map (sub_run_part p) (reverse (ended_runs (past_of p journal)))

-- each part tells the cancels of its sub-run
abbrev pub CancelsAreKept : Type 0
CancelsAreKept = (p : Settings) (journal : List Entry) → IsLegal p journal → is_over (past_of p journal) ≡ true
    → OfEachRun p (past_of p journal) KeepsCancels (told_seen (past_of p journal))

-- and what is due of its setup scripts, where the told statuses are plain
abbrev pub ScriptsAreKept : Type 0
ScriptsAreKept = (p : Settings) (journal : List Entry) → IsLegal p journal → is_over (past_of p journal) ≡ true
    → ArePlainTold (past_of p journal)
    → OfEachRun p (past_of p journal) (KeepsScripts p) (told_seen (past_of p journal))

-- each part tells what is due of the tests of a plan that has each id once, where the told statuses are plain
abbrev pub AccountsAreKept : Type 0
AccountsAreKept = (p : Settings) (journal : List Entry)
    → IsDistinct is_one_test (map (λ test. test.id) p.plan.tests) → IsLegal p journal
    → is_over (past_of p journal) ≡ true → ArePlainTold (past_of p journal)
    → OfEachRun p (past_of p journal) (KeepsAccounts p) (told_seen (past_of p journal))

-- and the limits of such a plan are kept after each event of a part
abbrev pub LimitsAreKept : Type 0
LimitsAreKept = (p : Settings) (journal : List Entry)
    → IsDistinct is_one_test (map (λ test. test.id) p.plan.tests) → IsLegal p journal
    → is_over (past_of p journal) ≡ true → All (KeepsTold p) (parts p (told_seen (past_of p journal)))

-- so all that is told of a run of such a plan keeps that run, where the told statuses are plain
abbrev pub ToldIsKept : Type 0
ToldIsKept = (p : Settings) (journal : List Entry)
    → IsDistinct is_one_test (map (λ test. test.id) p.plan.tests) → IsLegal p journal
    → is_over (past_of p journal) ≡ true → ArePlainTold (past_of p journal)
    → KeepsRun p (past_of p journal) (told_seen (past_of p journal))
