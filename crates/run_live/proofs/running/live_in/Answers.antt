use Rattle.std.proofs.Common.{sym, subst}
use Rattle.run_live.specs.Left.{HasToldSome, HasTakenSome}
use Rattle.run_live.proofs.LeftLemmas.{told_nothing, taken_nothing}
use Rattle.run_live.proofs.running.live_in.Goals as goal

pub returns-in-Err-clause-given_up : goal.returns-in-Err-clause-given_up
returns-in-Err-clause-given_up g c =
    subst (HasToldSome g.R.Reporter.told) (sym c.in-Err.ensures.err)
    (told_nothing g.R.Reporter.told c.args.report c.args.runner c.requires.report)

pub returns-in-Err-clause-turns_given_up : goal.returns-in-Err-clause-turns_given_up
returns-in-Err-clause-turns_given_up g c =
    subst (HasTakenSome g.R.Reporter.taken) (sym c.in-Err.ensures.err)
    (taken_nothing g.R.Reporter.taken c.args.report c.args.runner c.requires.untaken)
