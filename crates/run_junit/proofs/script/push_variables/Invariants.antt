use Rattle.std.proofs.Common.{◌≡◌, ◌++◌, take}
use Rattle.std.specs.List.{flat_map}
use Rattle.run_junit.specs.Cases.{variable_tokens}
use Rattle.run_junit.specs.Tokens.{tokens_bytes}
use Rattle.run_junit.proofs.script.push_variables.Given as goal

abbrev pub invariant-loop-variable : goal.invariant-loop-variable
invariant-loop-variable l = l.page ≡ l.initial.page
    ++ tokens_bytes (flat_map variable_tokens (take l.variable-index l.variables))
