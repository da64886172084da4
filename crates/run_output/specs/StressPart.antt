-- What stands at a key of a stress run's statistics.
use Rattle.std.specs.Prelude.{Option, Some}
use Rattle.serde_json.specs.Data.{Data, string}
use Rattle.run_output.specs.declared.stress.Part.{Part}
use Rattle.run_output.specs.declared.stress.Part.TheVariants.{Count, Word, Index}
use Rattle.run_output.specs.Fields.{count}
use Rattle.run_output.specs.Stress.{index_data}

-- its data
abbrev pub stress_part_data : Part → Option Data
stress_part_data (Count number) = Some (count number)
stress_part_data (Word word) = Some (string word.now)
stress_part_data (Index index) = Some (index_data index)
