-- The document of a run: its tokens, and its text.
use Rattle.std.specs.Prelude.{ℕ, List, [], ◌∷◌, ◌++◌, codes, decimal, Option}
use Rattle.std.specs.List.{flat_map}
use Rattle.uuid.specs.Text.{hyphenated_text, lower}
use Rattle.run_events.specs.declared.events.ReporterEvent.{ReporterEvent}
use Rattle.run_events.specs.declared.events.ReporterEvent.TheVariants.{Tick, Test}
use Rattle.run_events.specs.declared.events.TestEventKind.{TestEventKind}
use Rattle.run_events.specs.declared.events.TestEventKind.TheVariants as kinds
use Rattle.run_junit.specs.declared.suites.Counts.{Counts}
use Rattle.run_junit.specs.declared.tag.Key.TheVariants as keys
use Rattle.run_junit.specs.declared.tag.Tag.TheVariants as tags
use Rattle.run_junit.specs.Suites.{Finish, Suite, case_tokens, counts_of, finishes_heard, suites_of}
use Rattle.run_junit.specs.Texts.{times_said}
use Rattle.run_junit.specs.Tokens.{Attribute, Token, declaration, end, line, start, tokens_bytes}

-- the id of the run, as it was told last; nothing where it wasn't
abbrev pub id_after_kind : List ℕ → TestEventKind → List ℕ
id_after_kind before (kinds.RunStarted told) = hyphenated_text lower told.run_id
id_after_kind before _ = before

abbrev pub id_after : List ℕ → ReporterEvent → List ℕ
id_after before Tick = before
id_after before (Test event) = id_after_kind before event.kind

abbrev pub id_told : List ℕ → List ReporterEvent → List ℕ
id_told before [] = before
id_told before (event ∷ later) = id_told (id_after before event) later

-- how long the run took, by the last event
abbrev pub elapsed_after : ℕ → ReporterEvent → ℕ
elapsed_after before Tick = before
elapsed_after before (Test event) = event.elapsed

abbrev pub elapsed_last : ℕ → List ReporterEvent → ℕ
elapsed_last before [] = before
elapsed_last before (event ∷ later) = elapsed_last (elapsed_after before event) later

-- where a suite begins, with its counts
abbrev pub suite_said : List ℕ → Counts → List Attribute
suite_said name counts = (keys.Name, name) ∷ (keys.Tests, decimal counts.tests) ∷ (keys.Disabled, codes "0")
    ∷ (keys.Errors, decimal counts.errors) ∷ (keys.Failures, decimal counts.failures) ∷ []

abbrev pub suite_start : List ℕ → Counts → List Token
suite_start name counts = line 1 ∷ start tags.TestSuite (suite_said name counts) ∷ []

-- where it ends
abbrev pub suite_end : List Token
suite_end = line 1 ∷ end tags.TestSuite ∷ []

-- a suite: the cases of its finishes, in order
abbrev pub suite_tokens : Option ℕ → Suite → List Token
suite_tokens started suite = suite_start suite.name (counts_of suite.finishes)
    ++ (flat_map (case_tokens started) suite.finishes ++ suite_end)

-- what is said of all its suites
abbrev pub counts_said : Counts → List ℕ → List Attribute
counts_said counts id = (keys.Name, codes "nextest-run") ∷ (keys.Tests, decimal counts.tests)
    ∷ (keys.Failures, decimal counts.failures) ∷ (keys.Errors, decimal counts.errors) ∷ (keys.Uuid, id) ∷ []

-- where the document begins
abbrev pub run_said : Option ℕ → Counts → List ℕ → ℕ → List Attribute
run_said started counts id elapsed = counts_said counts id ++ times_said started 0 elapsed

abbrev pub document_open : Option ℕ → Counts → List ℕ → ℕ → List Token
document_open started counts id elapsed =
    declaration ∷ line 0 ∷ start tags.TestSuites (run_said started counts id elapsed) ∷ []

-- where it ends
abbrev pub run_end : List Token
run_end = line 0 ∷ end tags.TestSuites ∷ line 0 ∷ []

-- the document of finishes
abbrev pub document : Option ℕ → List ℕ → ℕ → List Finish → List Token
document started id elapsed finishes = document_open started (counts_of finishes) id elapsed
    ++ (flat_map (suite_tokens started) (suites_of finishes) ++ run_end)

-- the document of a run that started so, of which these events were told
unfoldable pub junit_tokens : Option ℕ → List ReporterEvent → List Token
junit_tokens started told = document started (id_told [] told) (elapsed_last 0 told) (finishes_heard told)

-- its text
abbrev pub junit_text : Option ℕ → List ReporterEvent → List ℕ
junit_text started told = tokens_bytes (junit_tokens started told)
