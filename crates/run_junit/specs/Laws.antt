-- What holds of every document.
use Rattle.std.specs.Prelude.{ℕ, ◌+◌, ◌≡◌, Bool, true, false, not, ◌==◌, if◌then◌else◌, List, [], ◌++◌, length, map}
use Rattle.std.specs.Prelude.{bytes_eq, count_by, Option, Some, None, encode_utf8}
use Rattle.std.specs.Str.{encode_utf8_all}
use Rattle.std.specs.List.{filter, filter_map, flat_map, list_all}
use Rattle.run_events.specs.declared.events.ReporterEvent.{ReporterEvent}
use Rattle.run_events.specs.declared.message.TestFinish.{TestFinish}
use Rattle.run_events.specs.declared.result.ExecuteStatus.{ExecuteStatus}
use Rattle.run_events.specs.declared.stats.RunStats.{RunStats}
use Rattle.run_events.specs.Stats.{adds_of, one_if, script_adds}
use Rattle.run_junit.specs.declared.escape.Place.{Place}
use Rattle.run_junit.specs.declared.escape.Place.TheVariants as places
use Rattle.run_junit.specs.declared.suites.Counts.{Counts}
use Rattle.run_junit.specs.declared.tag.Tag.{Tag}
use Rattle.run_junit.specs.declared.tag.Tag.TheVariants as tags
use Rattle.run_junit.specs.Cases.{case_said, main_of}
use Rattle.run_junit.specs.Document.{junit_tokens, suite_tokens}
use Rattle.run_junit.specs.Escape.{attribute_text, body_text, is_xml, reference}
use Rattle.run_junit.specs.Suites.{Finish, Suite, counts_of, fault_counted, finishes_heard, script, suite_of}
use Rattle.run_junit.specs.Suites.{suites_of, test}
use Rattle.run_junit.specs.Tokens.{Attribute, Token, start, tokens_bytes}

-- what the tokens say that begin an element of some tags
abbrev pub said_in : (Tag → Bool) → Token → Option (List Attribute)
said_in fits (start tag said) = if fits tag then Some said else None
said_in fits _ = None

abbrev pub attributes_at : (Tag → Bool) → List Token → List (List Attribute)
attributes_at fits tokens = filter_map (said_in fits) tokens

abbrev pub is_case : Tag → Bool
is_case tags.TestCase = true
is_case _ = false

abbrev pub is_failure_tag : Tag → Bool
is_failure_tag tags.Failure = true
is_failure_tag _ = false

abbrev pub is_error_tag : Tag → Bool
is_error_tag tags.Error = true
is_error_tag _ = false

-- what the case of a finish says of it
abbrev pub test_said : Option ℕ → TestFinish → Option ExecuteStatus → List Attribute
test_said started finish (Some main) =
    case_said started finish.test.id.name finish.test.id.binary main.start main.time
test_said started finish None = case_said started finish.test.id.name finish.test.id.binary 0 0

abbrev pub finish_said : Option ℕ → Finish → List Attribute
finish_said started (test finish) = test_said started finish (main_of finish)
finish_said started (script finish) =
    case_said started finish.script.id finish.script.id finish.status.start finish.status.time

-- whether a suite has a name, and whether a finish is of the suite of that name
abbrev pub has_suite_name : List ℕ → Suite → Bool
has_suite_name name suite = bytes_eq suite.name name

abbrev pub is_of_suite : List ℕ → Finish → Bool
is_of_suite name finish = bytes_eq (suite_of finish) name

-- all finishes of some suites
abbrev pub finishes_of_suites : List Suite → List Finish
finishes_of_suites suites = flat_map (λ suite. suite.finishes) suites

-- the cases of a suite are one for one its finishes, in order; those of the document are those of its suites; the
-- finishes of one name stand in its suite in the order in which they were told; and each finish stands once in a suite
pub record CasesAreFinishes : Type 0 where
  pub in_suite : (started : Option ℕ) (suite : Suite)
      → attributes_at is_case (suite_tokens started suite) ≡ map (finish_said started) suite.finishes
  pub in_document : (started : Option ℕ) (told : List ReporterEvent)
      → attributes_at is_case (junit_tokens started told)
      ≡ map (finish_said started) (finishes_of_suites (suites_of (finishes_heard told)))
  pub in_order : (finishes : List Finish) (name : List ℕ)
      → finishes_of_suites (filter (has_suite_name name) (suites_of finishes)) ≡ filter (is_of_suite name) finishes
  pub once : (finishes : List Finish) (fits : Finish → Bool)
      → count_by fits (finishes_of_suites (suites_of finishes)) ≡ count_by fits finishes

-- how many cases, failures and errors stand in a document
abbrev pub counts_below : List Token → Counts
counts_below tokens = record {
  tests = length (attributes_at is_case tokens);
  failures = length (attributes_at is_failure_tag tokens);
  errors = length (attributes_at is_error_tag tokens);
}

-- the counts that a suite says are those of what stands in it, and the document's those of what stands in it
pub record CountsAreThoseBelow : Type 0 where
  pub in_suite : (started : Option ℕ) (suite : Suite)
      → counts_of suite.finishes ≡ counts_below (suite_tokens started suite)
  pub in_document : (started : Option ℕ) (told : List ReporterEvent)
      → counts_of (finishes_heard told) ≡ counts_below (junit_tokens started told)

-- how many tests, and how many setup scripts, statistics count as failed
abbrev pub failed_tests : RunStats → ℕ
failed_tests stats = stats.failed + (stats.exec_failed + stats.failed_timed_out)

abbrev pub failed_scripts : RunStats → ℕ
failed_scripts stats =
    stats.setup_scripts_failed + (stats.setup_scripts_exec_failed + stats.setup_scripts_timed_out)

-- whether something is a failure or an error
abbrev pub is_counted_fault : {X : Type 0} → Option X → Bool
is_counted_fault (Some fault) = true
is_counted_fault None = false

-- what a finish adds to those that failed, as the statistics of a run count it; its last attempt was slow or not
abbrev pub failed_by : Bool → Finish → ℕ
failed_by slow (test finish) = failed_tests (adds_of (record {
  results = map (λ status. status.result) finish.statuses;
  slow = slow;
  flaky = finish.flaky;
}))
failed_by slow (script finish) = failed_scripts (script_adds finish.status.result)

-- a case has a failure or an error exactly where the statistics count the finish as failed, so the failures and errors
-- of finishes are together those that failed
pub record FaultsAreCounted : Type 0 where
  pub each : (slow : Bool) (finish : Finish) → one_if (is_counted_fault (fault_counted finish)) ≡ failed_by slow finish
  pub all : (finishes : List Finish) → (counts_of finishes).failures + (counts_of finishes).errors
      ≡ count_by (λ finish. is_counted_fault (fault_counted finish)) finishes

-- bytes that are made of references and of characters that stand for themselves: none of these is `&`, `<` or `>`, and
-- in an attribute none is a quotation mark
pub data IsEscapedIn (place : Place) : List ℕ → Type 0 where
  nothing : IsEscapedIn place []
  referred : (c : ℕ) (rest : List ℕ) → IsEscapedIn place rest → IsEscapedIn place (reference place c ++ rest)
  itself : (c : ℕ) (rest : List ℕ) → reference place c ≡ [] → IsEscapedIn place rest
      → IsEscapedIn place (encode_utf8 c ++ rest)

-- none of these bytes is this one
pub record HasNone (byte : ℕ) (bytes : List ℕ) : Type 0 where
  pub none : list_all (λ b. not (b == byte)) bytes ≡ true

-- the bytes of characters that a document of XML 1.0 may have
abbrev pub IsXmlText : List ℕ → Type 0
IsXmlText bytes = (cs : List ℕ) × (encode_utf8_all cs ≡ bytes) × (list_all is_xml cs ≡ true)

-- what is said in an attribute, and what a child wrote, is escaped, so that no name, id or output can begin an element
-- or a reference, or end an attribute; and each character of a document is one that XML 1.0 has
pub record NoTextIsForm : Type 0 where
  pub attribute : (text : List ℕ) → IsEscapedIn places.Attribute (attribute_text text)
  pub body : (bytes : List ℕ) → IsEscapedIn places.Body (body_text bytes)
  pub no_tag : (text : List ℕ) → HasNone 60 (attribute_text text) × HasNone 60 (body_text text)
  pub no_quote : (text : List ℕ) → HasNone 34 (attribute_text text)
  pub xml : (tokens : List Token) → IsXmlText (tokens_bytes tokens)
