-- What a list says of binaries and their tests.
use Rattle.std.specs.Prelude.{ℕ, List, [], ◌∷◌, ◌++◌, Option, Some, None, option_map, option_and_then, codes}
use Rattle.std.specs.Prelude.{if◌then◌else◌, nat_eq}
use Rattle.serde_json.specs.Data.{Data, Members, no_members, member}
use Rattle.serde_json.specs.Find.{get, as_object, as_str}
use Rattle.run_capture.specs.OutputText.{text_at}
use Rattle.run_commands.specs.declared.target_runner.BuildPlatform.TheVariants as platforms
use Rattle.run_input.specs.Fields.{◌>>=◌, optional, or_usual, texts_of, truth_of}
use Rattle.run_input.specs.PlanTest.{platform_of}
use Rattle.run_plan.specs.declared.test_list.BinaryFacts.{BinaryFacts}
use Rattle.run_plan.specs.declared.test_list.ListedTest.{ListedTest}
use Rattle.run_plan.specs.declared.test_list.TestBinary.{TestBinary}
use Rattle.run_plan.specs.declared.test_list.TestList.{TestList}
use lib.Pointwise.{pointwise}

-- why a test is left out: by a mismatch its reason, by a match nothing
abbrev pub reason_by : List ℕ → Data → Option (Option (List ℕ))
reason_by status d =
    if pointwise nat_eq status (codes "matches") then Some None
    else if pointwise nat_eq status (codes "mismatch") then option_map Some (text_at (codes "reason") d)
    else None

abbrev pub reason_of : Data → Option (Option (List ℕ))
reason_of d = option_and_then (λ status. reason_by status d) (text_at (codes "status") d)

-- a test of this name
unfoldable pub listed_test : List ℕ → Data → Option ListedTest
listed_test name d = do
  is_ignored ← option_and_then truth_of (get (codes "ignored") d)
  left_out ← or_usual None reason_of (get (codes "filter-match") d)
  Some (record { name = name; is_ignored = is_ignored; left_out = left_out })

-- the tests that stand at their names
abbrev pub tests_read : Members → Option (List ListedTest)
tests_read no_members = Some []
tests_read (member name d ms) = do
  test ← listed_test name d
  tests ← tests_read ms
  Some (test ∷ tests)

abbrev pub listed_tests : Data → Option (List ListedTest)
listed_tests d = option_and_then tests_read (as_object d)

-- the words that run a binary in a folder
abbrev pub command_in : List ℕ → List ℕ → List (List ℕ)
command_in folder binary =
    codes "env" ∷ codes "-C" ∷ folder ∷ (codes "CARGO_MANIFEST_DIR=" ++ folder) ∷ binary ∷ []

abbrev pub folder_command : Data → Option (List (List ℕ))
folder_command d = do
  folder ← text_at (codes "cwd") d
  binary ← text_at (codes "binary-path") d
  Some (command_in folder binary)

-- words, of which there is one
abbrev pub needed_words : List (List ℕ) → Option (List (List ℕ))
needed_words [] = None
needed_words (word ∷ words) = Some (word ∷ words)

-- the words that run a binary: those that are said, else by its folder and its path
abbrev pub command_by : Option Data → Data → Option (List (List ℕ))
command_by (Some words) d = option_and_then needed_words (texts_of words)
command_by None d = folder_command d

abbrev pub binary_command : Data → Option (List (List ℕ))
binary_command d = command_by (get (codes "command") d) d

-- what a binary is of
abbrev pub facts_of : Data → Option BinaryFacts
facts_of d = do
  platform ← or_usual platforms.Target platform_of (get (codes "build-platform") d)
  package_name ← text_at (codes "package-name") d
  name ← text_at (codes "binary-name") d
  kind ← text_at (codes "kind") d
  Some (record { package_name = package_name; name = name; kind = kind; platform = platform })

-- the binary of this id
unfoldable pub listed_binary : List ℕ → Data → Option TestBinary
listed_binary id d = do
  facts ← facts_of d
  command ← binary_command d
  tests ← or_usual [] listed_tests (get (codes "testcases") d)
  Some (record { id = id; facts = facts; command = command; tests = tests })

-- the binaries that stand at their ids
abbrev pub binaries_from : Members → Option (List TestBinary)
binaries_from no_members = Some []
binaries_from (member id d ms) = do
  binary ← listed_binary id d
  binaries ← binaries_from ms
  Some (binary ∷ binaries)

abbrev pub binaries_of : Data → Option (List TestBinary)
binaries_of d = option_and_then binaries_from (as_object d)

-- the folder that cargo builds in, of what is said of the build
abbrev pub target_of : Data → Option (List ℕ)
target_of d = text_at (codes "target-directory") d

-- a list of tests
unfoldable pub list_of : Data → Option TestList
list_of d = do
  target ← option_and_then target_of (get (codes "rust-build-meta") d)
  root ← optional as_str (get (codes "workspace-root") d)
  binaries ← option_and_then binaries_of (get (codes "rust-suites") d)
  Some (record { target = target; root = root; binaries = binaries })
