use Rattle.run_filter.proofs.HeldLemmas.{pattern_held}
use Rattle.run_filter.proofs.held.pattern_held.Goals as goal

pub returns-in_ok-held-in-Ok : goal.returns-in_ok-held-in-Ok
returns-in_ok-held-in-Ok c =
    pattern_held c.args.subject c.args.place c.args.pattern.now c.in-Ok.regex c.args.tests.now _ c.in-Ok.ensures.ok
    c.in_ok-held-in-Ok.ensures
