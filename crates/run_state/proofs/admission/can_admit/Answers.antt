use Rattle.std.proofs.Common.{is_some, ap, sym, ◌∙◌}
use Rattle.run_state.proofs.SeatLemmas.{opens}
use Rattle.run_state.proofs.admission.can_admit.Goals as goal

pub returns-else-are_scripts_over : goal.returns-else-are_scripts_over
returns-else-are_scripts_over c index =
    c.is_some.ensures ∙ ap is_some c.next_script.ensures
    ∙ opens c.args.settings.now index c.args.units.now (sym c.are_scripts_over.ensures ∙ c.if-are_scripts_over.false)
