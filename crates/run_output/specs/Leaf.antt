-- What stands at a key of an object, where it holds no object itself.
use Rattle.std.specs.Prelude.{Option, Some, None, Bool, true, false, ◌++◌}
use Rattle.serde_json.specs.Data.{Data, boolean, string}
use Rattle.uuid.specs.Text.{hyphenated_text, lower}
use Rattle.run_output.specs.declared.leaf.Leaf.{Leaf}
use Rattle.run_output.specs.declared.leaf.Leaf.TheVariants.{Absent, Count, Number, Nonzero, Signed, Truth, Word, Text}
use Rattle.run_output.specs.declared.leaf.Leaf.TheVariants.{Texts, Pairs, Variables, Hex, Id, Test, Tests}
use Rattle.run_output.specs.declared.leaf.Leaf.TheVariants.{Result, Errors, Runs}
use Rattle.run_output.specs.Fields.{count, signed, nonzero, texts, pair, array_of}
use Rattle.run_output.specs.Texts.{bytes_data, test_data, runs_text, result_text}
use Rattle.run_output.specs.Errors.{child_errors, fault_errors, errors_data}

-- its data, where there is some
abbrev pub leaf_data : Leaf → Option Data
leaf_data Absent = None
leaf_data (Count number) = Some (count number)
leaf_data (Number number) = Some (count number)
leaf_data (Nonzero number) = nonzero number
leaf_data (Signed number) = Some (signed number)
leaf_data (Truth truth) = Some (boolean truth)
leaf_data (Word word) = Some (string word.now)
leaf_data (Text text) = Some (string text.now)
leaf_data (Texts list) = Some (texts list.now)
leaf_data (Pairs list) = Some (array_of pair list.now)
leaf_data (Variables list) = Some (array_of pair list.now)
leaf_data (Hex bytes) = Some (bytes_data bytes.now)
leaf_data (Id id) = Some (string (hyphenated_text lower id))
leaf_data (Test test) = Some (test_data test.now)
leaf_data (Tests list) = Some (array_of test_data list.now)
leaf_data (Result outcome) = Some (string (result_text outcome))
leaf_data (Errors child fault) = errors_data (child_errors child.now ++ fault_errors fault)
leaf_data (Runs runs) = Some (string (runs_text runs))

-- nothing, a number or a truth value
abbrev pub is_short : Leaf → Bool
is_short Absent = true
is_short (Count number) = true
is_short (Number number) = true
is_short (Nonzero number) = true
is_short (Signed number) = true
is_short (Truth truth) = true
is_short _ = false
