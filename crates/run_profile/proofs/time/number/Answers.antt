use Rattle.std.proofs.Common.{sym, ◌∙◌}
use Rattle.run_profile.proofs.TimeLemmas.{number_never}
use Rattle.run_profile.proofs.time.number.Goals as goal

pub returns-in-None : goal.returns-in-None
returns-in-None c =
    sym (number_never c.loop-digit.number c.loop-digit.digit-index c.args.digits.now c.loop-digit-test.true
    (sym c.with_digit.ensures ∙ c.in-None.is) c.loop-digit.invariant.0)
