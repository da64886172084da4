use Rattle.std.proofs.Common.{◌∙◌}
use Rattle.run_commands.specs.declared.words.machine.State.TheVariants as states
use Rattle.run_commands.proofs.WordStepLemmas.{single_other, takes_add}
use Rattle.run_commands.proofs.words.machine.after_single.Goals as goal

pub returns-in_ok-push-in_default : goal.returns-in_ok-push-in_default
returns-in_ok-push-in_default c = λ place.
    rw c.in_ok-push-in_default.ensures (
    takes_add (states.SingleQuotes c.args.quote) (states.SingleQuotes c.args.quote) _ _ place c.args.c
    (single_other _ _ _ (λ e. c.in_default.not-SingleQuote (c.kind_of.ensures ∙ e))) tt)
