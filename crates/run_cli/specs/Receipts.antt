-- The line that says why receipts were refused.
use Rattle.std.specs.Prelude.{ℕ, List}
use Rattle.run_output.specs.declared.fault.Fault.TheVariants.{Memory}
use Rattle.run_output.specs.Faults.{fault_text}
use Rattle.run_output.specs.Turns.{other_settings_text, mismatch_text, repeated_text}
use Rattle.run_shared.specs.declared.closing.CloseKind.{CloseKind}
use Rattle.run_shared.specs.declared.closing.CloseKind.TheVariants.{OtherSettings, Mismatch, Repeated, OutOfMemory}

abbrev pub receipt_text : CloseKind → List ℕ
receipt_text (OtherSettings given kept) = other_settings_text
receipt_text (Mismatch number receipt found) = mismatch_text number receipt found
receipt_text (Repeated number) = repeated_text number
receipt_text OutOfMemory = fault_text Memory
