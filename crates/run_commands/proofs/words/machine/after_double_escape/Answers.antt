use Rattle.std.proofs.Common.{◌∙◌}
use Rattle.run_commands.specs.declared.words.machine.State.TheVariants as states
use Rattle.std.proofs.Common.{arith}
use Rattle.std.proofs.lemmas.Str.{encode_ascii}
use Rattle.run_commands.proofs.WordStepLemmas.{double_escape_other, takes_add_both}
use Rattle.run_commands.proofs.words.machine.after_double_escape.Goals as goal

pub returns-in_ok-push-in_default-2 : goal.returns-in_ok-push-in_default-2
returns-in_ok-push-in_default-2 c = λ place.
    let is = c.kind_of.ensures in
    let slash = encode_ascii 92 (omega arith) in
    rw (c.in_ok-push-in_default-2.ensures, c.in_ok-push-in_default.ensures, slash) (
    takes_add_both (states.DoubleQuotesEscape c.args.quote) (states.DoubleQuotes c.args.quote) _ _ _ place c.args.c
    (double_escape_other _ _ _ _ (λ e. c.in_default.not-Newline (is ∙ e)) (λ e. c.in_default.not-Backslash (is ∙ e))
    (λ e. c.in_default.not-DoubleQuote (is ∙ e)) (λ e. c.in_default.not-Expansion (is ∙ e))) tt)
