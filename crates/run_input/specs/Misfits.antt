-- What a refusal is, apart from what is wrong.
use Rattle.std.specs.Prelude.{Option, Some, None}
use Rattle.run_input.specs.declared.errors.LineError.{LineError}
use Rattle.run_input.specs.declared.errors.LineError.TheVariants as errors

-- with something wrong a line is not in its table, and without that memory was refused
abbrev pub error_of : {A : Type 0} → Option A → LineError
error_of None = errors.OutOfMemory
error_of (Some wrong) = errors.NotInTable
