use Rattle.std.proofs.Common.{◌≡◌, ◌++◌, map, drop}
use Rattle.serde_json.specs.Data.{string}
use Rattle.run_output.specs.Errors.{error_text}
use Rattle.run_output.specs.Printer.{each_tokens}
use Rattle.run_output.proofs.errors.print_each.Given as goal

abbrev pub invariant-loop-error : goal.invariant-loop-error
invariant-loop-error l =
    l.out ++ each_tokens (map (λ e. string (error_text e)) (drop l.error-index l.errors))
    ≡ l.initial.out ++ each_tokens (map (λ e. string (error_text e)) l.errors)
