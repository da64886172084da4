use Rattle.std.proofs.Common.{IsUtf8, take}
use Rattle.std.specs.List.{All}
use Rattle.run_output.specs.Errors.{error_text}
use Rattle.run_laws_audit.proofs.known.known_errors.Given as goal

abbrev pub invariant-loop-error : goal.invariant-loop-error
invariant-loop-error l = All (λ error. IsUtf8 (error_text error)) (take l.error-index l.errors)
