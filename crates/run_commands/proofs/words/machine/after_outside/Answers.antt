use Rattle.std.proofs.Common.{◌∙◌}
use Rattle.run_commands.specs.declared.words.machine.State.TheVariants as states
use Rattle.run_commands.proofs.WordStepLemmas.{outside_other, takes_add}
use Rattle.run_commands.proofs.words.machine.after_outside.Goals as goal

pub returns-in_ok-push-in_default : goal.returns-in_ok-push-in_default
returns-in_ok-push-in_default c =
    let is = c.kind_of.ensures in
    let other = c.in_default in
    rw c.in_ok-push-in_default.ensures (
    takes_add states.Outside states.Outside _ _ c.args.place c.args.c
    (outside_other _ _ _ _ (λ e. other.not-Space (is ∙ e)) (λ e. other.not-Newline (is ∙ e))
    (λ e. other.not-Backslash (is ∙ e))
    (λ e. other.not-SingleQuote (is ∙ e)) (λ e. other.not-DoubleQuote (is ∙ e))
    (λ e. absurd (other.not-Hash (is ∙ e)))) tt)
