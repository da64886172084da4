-- What a reader that takes memory answers.
use Rattle.std.specs.Prelude.{◌≡◌, ⊤, Option, Some, None, Result, Ok, Err}
use Rattle.run_input.specs.declared.errors.LineError.{LineError}
use Rattle.run_input.specs.declared.errors.LineError.TheVariants as errors

-- a line is refused only where it has no value, or for want of memory
abbrev pub RefusesLine : {X : Type 0} → LineError → Option X → Type 0
RefusesLine errors.NotInTable o = o ≡ None
RefusesLine errors.OutOfMemory o = ⊤

-- a reader gives the value that there is, and refuses where there is none
abbrev pub ReadsValue : {X : Type 0} → Result X LineError → Option X → Type 0
ReadsValue (Ok x) o = o ≡ Some x
ReadsValue (Err e) o = RefusesLine e o
