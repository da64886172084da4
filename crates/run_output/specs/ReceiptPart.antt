-- What stands at a key of the line of a receipt.
use Rattle.std.specs.Prelude.{Option, Some}
use Rattle.serde_json.specs.Data.{Data, string}
use Rattle.run_output.specs.declared.receipts.Part.{Part}
use Rattle.run_output.specs.declared.receipts.Part.TheVariants.{Word, Number, Turn, Found}
use Rattle.run_output.specs.Fields.{count}
use Rattle.run_output.specs.Turns.{turn_data, found_data}

-- its data
abbrev pub receipt_part_data : Part → Option Data
receipt_part_data (Word word) = Some (string word.now)
receipt_part_data (Number number) = Some (count number)
receipt_part_data (Turn turn) = Some (turn_data turn.now)
receipt_part_data (Found found) = Some (found_data found.now)
