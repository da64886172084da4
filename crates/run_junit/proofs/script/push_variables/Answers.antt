use Rattle.std.proofs.Common.{◌∙◌, ap, ◌++◌}
use Rattle.run_junit.specs.Cases.{variable_tokens}
use Rattle.run_junit.specs.Tokens.{tokens_bytes}
use Rattle.run_junit.proofs.TokenLemmas.{flat_tokens_more, no_tokens}
use Rattle.run_junit.proofs.script.push_variables.Goals as goal

pub loop-variable-init : goal.loop-variable-init
loop-variable-init c = no_tokens c.args.page.now

pub loop-variable-preserved : goal.loop-variable-preserved
loop-variable-preserved c =
    c.in_ok-push_variable.ensures
    ∙ ap (λ bytes. bytes ++ tokens_bytes (variable_tokens c.variable-item.result))
    c.loop-variable.invariant
    ∙ flat_tokens_more variable_tokens c.args.page.now c.args.variables.now
    c.loop-variable.variable-index c.variable-item.result c.loop-variable-test.true c.variable-item.is
