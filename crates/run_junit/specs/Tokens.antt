-- The tokens of a document, and their bytes: no text of a test goes into it but by them.
use Rattle.std.specs.Prelude.{ℕ, zero, suc, List, [], ◌∷◌, ◌++◌, codes}
use Rattle.std.specs.List.{flat_map}
use Rattle.run_junit.specs.declared.tag.Key.{Key}
use Rattle.run_junit.specs.declared.tag.Key.TheVariants as keys
use Rattle.run_junit.specs.declared.tag.Tag.{Tag}
use Rattle.run_junit.specs.declared.tag.Tag.TheVariants as tags
use Rattle.run_junit.specs.Escape.{attribute_text, body_text}

-- the names of elements
abbrev pub tag_name : Tag → List ℕ
tag_name tags.TestSuites = codes "testsuites"
tag_name tags.TestSuite = codes "testsuite"
tag_name tags.TestCase = codes "testcase"
tag_name tags.Properties = codes "properties"
tag_name tags.Property = codes "property"
tag_name tags.Failure = codes "failure"
tag_name tags.Error = codes "error"
tag_name tags.FlakyFailure = codes "flakyFailure"
tag_name tags.FlakyError = codes "flakyError"
tag_name tags.RerunFailure = codes "rerunFailure"
tag_name tags.RerunError = codes "rerunError"
tag_name tags.SystemOut = codes "system-out"
tag_name tags.SystemErr = codes "system-err"

-- the names of attributes
abbrev pub key_name : Key → List ℕ
key_name keys.Name = codes "name"
key_name keys.ClassName = codes "classname"
key_name keys.Tests = codes "tests"
key_name keys.Failures = codes "failures"
key_name keys.Errors = codes "errors"
key_name keys.Disabled = codes "disabled"
key_name keys.Uuid = codes "uuid"
key_name keys.Timestamp = codes "timestamp"
key_name keys.Time = codes "time"
key_name keys.Message = codes "message"
key_name keys.Type = codes "type"
key_name keys.Value = codes "value"

-- an attribute: its name, and what it says
abbrev pub Attribute : Type 0
Attribute = Key × List ℕ

pub data Token : Type 0 where
  -- that it is a document of XML 1.0 in UTF-8
  declaration : Token
  -- the end of a line, and the start of the next, so deep
  line : ℕ → Token
  -- where an element begins
  start : Tag → List Attribute → Token
  -- where it ends
  end : Tag → Token
  -- what a child wrote
  written : List ℕ → Token

abbrev pub attribute_bytes : Attribute → List ℕ
attribute_bytes said = codes " " ++ (key_name said.0 ++ (codes "=\"" ++ (attribute_text said.1 ++ codes "\"")))

-- attributes, one after another
unfoldable pub attributes_bytes : List Attribute → List ℕ
attributes_bytes said = flat_map attribute_bytes said

-- a line feed, and four blanks for each step
abbrev pub new_line_bytes : ℕ → List ℕ
new_line_bytes zero = 10 ∷ []
new_line_bytes (suc depth) = new_line_bytes depth ++ codes "    "

abbrev pub token_bytes : Token → List ℕ
token_bytes declaration = codes "<?xml version=\"1.0\" encoding=\"UTF-8\"?>"
token_bytes (line depth) = new_line_bytes depth
token_bytes (start tag said) = codes "<" ++ (tag_name tag ++ (attributes_bytes said ++ codes ">"))
token_bytes (end tag) = codes "</" ++ (tag_name tag ++ codes ">")
token_bytes (written bytes) = body_text bytes

-- the bytes of tokens, one after another
unfoldable pub tokens_bytes : List Token → List ℕ
tokens_bytes tokens = flat_map token_bytes tokens
