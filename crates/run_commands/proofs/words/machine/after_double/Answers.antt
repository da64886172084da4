use Rattle.std.proofs.Common.{◌∙◌}
use Rattle.run_commands.specs.declared.words.machine.State.TheVariants as states
use Rattle.run_commands.proofs.WordStepLemmas.{double_other, takes_add}
use Rattle.run_commands.proofs.words.machine.after_double.Goals as goal

pub returns-in_ok-push-in_default : goal.returns-in_ok-push-in_default
returns-in_ok-push-in_default c = λ place.
    rw c.in_ok-push-in_default.ensures (
    takes_add (states.DoubleQuotes c.args.quote) (states.DoubleQuotes c.args.quote) _ _ place c.args.c
    (double_other _ _ _ (λ e. c.in_default.not-DoubleQuote (c.kind_of.ensures ∙ e))
    (λ e. c.in_default.not-Backslash (c.kind_of.ensures ∙ e))) tt)
