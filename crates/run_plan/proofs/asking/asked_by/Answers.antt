use Rattle.std.proofs.Common.{sym}
use Rattle.run_plan.proofs.asking.asked_by.Goals as goal

pub returns-clause-ok : goal.returns-clause-ok
returns-clause-ok c =
    c.in_ok-asked.ensures.ok c.args.picks.now (sym c.as_slice.ensures) c.in_ok-says.ensures.ok
