-- Lines of a report, as their parts.
use Rattle.std.specs.Prelude.{ℕ, ◌+◌, ◌-◌, List, [], ◌∷◌, ◌++◌, length, Option, Some, None, codes, decimal}
use Rattle.run_events.specs.declared.message.ScriptUnit.{ScriptUnit}
use Rattle.run_events.specs.declared.message.TestUnit.{TestUnit}
use Rattle.run_events.specs.declared.plan.TestInstanceId.{TestInstanceId}
use Rattle.run_events.specs.declared.stress.StressIndex.{StressIndex}
use Rattle.run_progress.specs.Texts.{right}
use Rattle.run_report.specs.declared.style.Style.{Style}
use Rattle.run_report.specs.declared.style.Style.TheVariants.{Plain, Magenta, Cyan}
use Rattle.run_report.specs.Style.{Span}

-- where a line begins: its word, at the right of twelve columns
abbrev pub head : Style → List ℕ → List Span
head style word = (Plain, right (12 - length word) []) ∷ (style, word) ∷ (Plain, codes " ") ∷ []

-- how many sub-runs there are to be; the sign of infinity where they have no end
abbrev pub repeats_text : Option ℕ → List ℕ
repeats_text (Some total) = decimal total
repeats_text None = 226 ∷ 136 ∷ 158 ∷ []

-- which sub-run of a stress run it is
abbrev pub lead_text : Option StressIndex → List ℕ
lead_text (Some index) = codes "[" ++ (decimal (index.current + 1) ++ (codes "/"
    ++ (repeats_text index.total ++ codes "] ")))
lead_text None = []

-- a test by its binary and its name
abbrev pub test_id_spans : TestInstanceId → List Span
test_id_spans id = (Magenta, id.binary) ∷ (Plain, codes " ") ∷ (Cyan, id.name) ∷ []

-- some text, and a test
abbrev pub unit_spans : List ℕ → TestUnit → List Span
unit_spans middle test = (Plain, middle) ∷ (Plain, lead_text test.stress_index) ∷ test_id_spans test.id

-- a line about a test
pub record TestLine : Type 0 where
  pub style : Style
  pub word : List ℕ
  pub middle : List ℕ
  pub test : TestUnit

unfoldable pub test_spans : TestLine → List Span
test_spans line = head line.style line.word ++ unit_spans line.middle line.test

-- some text, a script, and what is said of it
abbrev pub script_id_spans : List ℕ → ScriptUnit → List ℕ → List Span
script_id_spans middle script said =
    (Plain, middle) ∷ (Plain, lead_text script.stress_index) ∷ (Magenta, script.id) ∷ (Plain, said) ∷ []

-- a line about a script
pub record ScriptLine : Type 0 where
  pub style : Style
  pub word : List ℕ
  pub middle : List ℕ
  pub script : ScriptUnit
  pub said : List ℕ

unfoldable pub script_spans : ScriptLine → List Span
script_spans line = head line.style line.word ++ script_id_spans line.middle line.script line.said

-- a line that is a word and what is said
unfoldable pub word_spans : Style → List ℕ → List ℕ → List Span
word_spans style word said = head style word ++ ((Plain, said) ∷ [])
