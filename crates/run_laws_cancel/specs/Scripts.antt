-- Setup scripts come one by one.
use Rattle.std.specs.Prelude.{ℕ, ◌≡◌, ◌<◌, ◌||◌, List, ◌∷◌, ◌++◌, Bool, true, is_some}
use Rattle.std.specs.List.{list_any}
use Rattle.run_events.specs.declared.events.ReporterEvent.{ReporterEvent}
use Rattle.run_events.specs.declared.settings.Settings.{Settings}
use Rattle.run_model.specs.declared.entry.Entry.{Entry}
use Rattle.run_model.specs.declared.happening.Happening.{Happening}
use Rattle.run_model.specs.Admission.{scripts_in, unit_terms}
use Rattle.run_model.specs.Attempts.{pieces_of}
use Rattle.run_model.specs.Journal.{IsLegal, past_of}
use Rattle.run_model.specs.Story.{never_started}
use Rattle.run_model.specs.Words.{finishes, starts, sub_run, told, unit_of}
use Rattle.run_laws_cancel.specs.Reach.{is_finished}

-- before the start of a script, each script told started has a lower number and was told finished
abbrev pub ComeInTurn : Settings → List ReporterEvent → Type 0
ComeInTurn p events = (j k : ℕ) (before after : List ReporterEvent) (e : ReporterEvent)
    → j < scripts_in p → k < scripts_in p → events ≡ before ++ e ∷ after → starts k e ≡ true
    → list_any (starts j) before ≡ true
    → (j < k) × (list_any (finishes j) before ≡ true)

-- a script is done with: a cause came before the delivery of its start, or its attempt was decided on
abbrev pub is_done_with : Settings → ℕ → List Happening → Bool
is_done_with p k run = never_started k run || is_finished (unit_terms p k) (pieces_of k run)

-- each script before one that was admitted is done with
abbrev pub AreAdmittedInTurn : Settings → List Happening → Type 0
AreAdmittedInTurn p run = (j k : ℕ) → j < k → k < scripts_in p → is_some (unit_of k run) ≡ true
    → is_done_with p j run ≡ true

-- that holds in the newest sub-run after every legal journal
abbrev pub ScriptsAreAdmittedInTurn : Type 0
ScriptsAreAdmittedInTurn = (p : Settings) (journal : List Entry) → IsLegal p journal
    → AreAdmittedInTurn p (sub_run (past_of p journal))

-- and so they are told in it
abbrev pub ScriptsComeOneByOne : Type 0
ScriptsComeOneByOne = (p : Settings) (journal : List Entry) → IsLegal p journal
    → ComeInTurn p (told (sub_run (past_of p journal)))
