-- What stands at a key of a line.
use Rattle.std.specs.Prelude.{Option, Some}
use Rattle.serde_json.specs.Data.{Data, string}
use Rattle.run_output.specs.Fields.{count}
use Rattle.run_jobs_cli.specs.declared.fields.Leaf.{Leaf}
use Rattle.run_jobs_cli.specs.declared.fields.Leaf.TheVariants.{Word, Number}

-- the value of a leaf
abbrev pub leaf_value : Leaf → Data
leaf_value (Word word) = string word.now
leaf_value (Number number) = count number

-- every leaf has one
abbrev pub leaf_member : Leaf → Option Data
leaf_member leaf = Some (leaf_value leaf)
