-- How reading a source to its end goes wrong.
use Rattle.std.specs.Prelude.{ℕ, ◌+◌, ◌<◌, ◌≤◌, Bool, true, false}
use Rattle.std.specs.declared.result.Result.{Result}
use Rattle.std.specs.declared.result.Result.TheVariants.{Ok, Err}
use Rattle.run_capture.specs.declared.reading.ReadError.{ReadError}
use Rattle.run_capture.specs.declared.reading.ReadError.TheVariants as errors

-- how many bytes a source had given where reading it under a limit was refused: with a failure no more than the
-- limit, and never more than one read past it
abbrev pub IsUnreadAfter : ℕ → ReadError → ℕ → Type 0
IsUnreadAfter limit errors.Failed count = count ≤ limit
IsUnreadAfter limit errors.TooLong count = (limit < count) × (count ≤ limit + 8192)
IsUnreadAfter limit errors.OutOfMemory count = count ≤ limit + 8192

-- whether the source failed
abbrev pub has_failed : {T : Type 0} → Result T ReadError → Bool
has_failed (Ok _) = false
has_failed (Err errors.Failed) = true
has_failed (Err errors.TooLong) = false
has_failed (Err errors.OutOfMemory) = false
