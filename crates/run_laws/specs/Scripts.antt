-- What becomes of setup scripts, and when tests start.
use Rattle.std.specs.Prelude.{ℕ, ◌≡◌, ◌<◌, List, [], ◌∷◌, ◌++◌, Bool, true, false, Option, Some, None, IfSome}
use Rattle.std.specs.List.{All, list_any}
use Rattle.run_events.specs.declared.events.ReporterEvent.{ReporterEvent}
use Rattle.run_events.specs.declared.events.ReporterEvent.TheVariants.{Test}
use Rattle.run_events.specs.declared.events.TestEventKind.{TestEventKind}
use Rattle.run_events.specs.declared.events.TestEventKind.TheVariants.{SetupScriptFinished, TestStarted}
use Rattle.run_events.specs.declared.message.ScriptFinish.{ScriptFinish}
use Rattle.run_events.specs.declared.result.ExecuteStatus.{ExecuteStatus}
use Rattle.run_events.specs.declared.settings.Settings.{Settings}
use Rattle.run_model.specs.declared.entry.Entry.{Entry}
use Rattle.run_model.specs.declared.happening.Happening.{Happening}
use Rattle.run_model.specs.Accounts.{started, finished, account_of}
use Rattle.run_model.specs.Admission.{scripts_in}
use Rattle.run_model.specs.Attempts.{statuses_of}
use Rattle.run_model.specs.Journal.{IsLegal, past_of}
use Rattle.run_model.specs.Story.{never_started, story_of}
use Rattle.run_model.specs.Words.{sub_run, ended_runs, told, starts, finishes}
use Rattle.run_laws.specs.Starts.{env_said}

-- script k in a sub-run that has ended: it was told started and then finished, with the one attempt that its own turns
-- made, and nothing else of it, or, exactly where a cause came before the delivery of its start, nothing at all
pub record HasScriptFate (p : Settings) (run : List Happening) (k : ℕ) : Type 0 where
  pub never : never_started k run ≡ true → account_of k (told run) ≡ []
  pub once : never_started k run ≡ false
      → (s : ExecuteStatus) × ((account_of k (told run) ≡ started ∷ finished (s ∷ []) ∷ [])
      × (statuses_of p k run ≡ s ∷ []))

-- each script of the plan has that in each sub-run that has ended, of every legal journal
abbrev pub ScriptsHaveFates : Type 0
ScriptsHaveFates = (p : Settings) (journal : List Entry) → IsLegal p journal
    → All (λ run. (k : ℕ) → k < scripts_in p → HasScriptFate p run k) (ended_runs (past_of p journal))

-- whether an event tells the start of a test
abbrev pub starts_test_in : TestEventKind → Bool
starts_test_in (TestStarted event) = true
starts_test_in _ = false

abbrev pub starts_test : ReporterEvent → Bool
starts_test (Test event) = starts_test_in event.kind
starts_test _ = false

-- before the start of any test each script that was told started at all was told finished
abbrev pub ComeFirst : Settings → List ReporterEvent → Type 0
ComeFirst p events = (k : ℕ) (before after : List ReporterEvent) (e : ReporterEvent) → k < scripts_in p
    → events ≡ before ++ e ∷ after → starts_test e ≡ true
    → list_any (starts k) events ≡ true → list_any (finishes k) before ≡ true

-- that holds of the events told in the newest sub-run after every legal journal
abbrev pub ScriptsComeFirst : Type 0
ScriptsComeFirst = (p : Settings) (journal : List Entry) → IsLegal p journal
    → ComeFirst p (told (sub_run (past_of p journal)))

-- the finish of a script that an event tells
abbrev pub script_told_in : TestEventKind → Option ScriptFinish
script_told_in (SetupScriptFinished finish) = Some finish
script_told_in _ = None

abbrev pub script_told : ReporterEvent → Option ScriptFinish
script_told (Test event) = script_told_in event.kind
script_told _ = None

-- what came of its environment file is told with that as its own turns say it
abbrev pub IsToldAsRead : List Happening → ReporterEvent → Type 0
IsToldAsRead run e = IfSome (script_told e) (λ finish. finish.status.env ≡ env_said (story_of finish.script.unit run))

-- that holds of each event told in the newest sub-run after every legal journal
abbrev pub ScriptsToldAsRead : Type 0
ScriptsToldAsRead = (p : Settings) (journal : List Entry) → IsLegal p journal
    → All (IsToldAsRead (sub_run (past_of p journal))) (told (sub_run (past_of p journal)))
