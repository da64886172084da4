-- What a sink took of a text by way of a buffer, and what is put there.
use Rattle.std.specs.Prelude.{ℕ, ◌≡◌, ◌==◌, if◌then◌else◌, List, [], ◌++◌, length, Option}
use Rattle.std.specs.List.{flat_map}
use Rattle.std.specs.Str.Lossy.{replacement_bytes}
use Rattle.run_capture.specs.Bytes.{Takes}
use Rattle.run_junit.specs.declared.heard.Heard.{Heard}
use Rattle.run_junit.specs.declared.suites.Kept.{Kept}
use Rattle.run_junit.specs.Document.{run_end, document_open, suite_end, suite_start}
use Rattle.run_junit.specs.Tokens.{tokens_bytes}

-- the sink took some bytes; they and what stands in the buffer now are what stood there, and a text behind it
pub record Puts (before now : Option (List ℕ)) (buffer buffer_now text : List ℕ) : Type 0 where
  pub bytes : List ℕ
  pub taken : Takes before now bytes
  pub same : bytes ++ buffer_now ≡ buffer ++ text

-- a text, and U+FFFD for bytes behind it that are none
abbrev pub chunk_text : List ℕ → List ℕ → List ℕ
chunk_text valid invalid = valid ++ (if length invalid == 0 then [] else replacement_bytes)

-- texts of cases
abbrev pub cases_bytes : List (List ℕ) → List ℕ
cases_bytes cases = flat_map (λ case. case) cases

-- what is kept of a suite, as it is written
abbrev pub suite_bytes : Kept → List ℕ
suite_bytes suite = tokens_bytes (suite_start suite.name suite.counts)
    ++ (cases_bytes suite.cases ++ tokens_bytes suite_end)

abbrev pub suites_bytes : List Kept → List ℕ
suites_bytes suites = flat_map suite_bytes suites

-- what is kept of a run
abbrev pub heard_bytes : Option ℕ → Heard → List ℕ
heard_bytes started heard = tokens_bytes (document_open started heard.counts heard.id heard.elapsed)
    ++ (suites_bytes heard.suites ++ tokens_bytes run_end)
