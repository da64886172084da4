use Rattle.std.proofs.Common.{sym, subst, length, IfOk, ◌+◌}
use Rattle.run_events.specs.declared.settings.Settings.{Settings}
use Rattle.run_live.specs.Left.{HasToldSome, HasTakenSome}
use Rattle.run_live.proofs.LeftLemmas.{told_nothing, taken_nothing}
use Rattle.run_whole.specs.Own.{IsListenerWork}
use Rattle.run_whole.proofs.running.whole_in.Goals as goal

pub returns-in-Ok-clause-listener : goal.returns-in-Ok-clause-listener
returns-in-Ok-clause-listener g c =
    subst (λ (s : Settings). IfOk c.whole_on.result (λ w. IsListenerWork g.O.Outside.has_come s.plan.hearing
    w.threads.ear.around.outside (length w.threads.workers.keepers.items + 1) w.run.receipts w.threads.ear.dropped))
    c.settings.ensures.is c.whole_on.ensures.listener

pub returns-in-Err-clause-given_up : goal.returns-in-Err-clause-given_up
returns-in-Err-clause-given_up g c =
    subst (HasToldSome g.R.Reporter.told) (sym c.in-Err.ensures.err)
    (told_nothing g.R.Reporter.told c.args.report c.args.runner c.requires.report)

pub returns-in-Err-clause-turns_given_up : goal.returns-in-Err-clause-turns_given_up
returns-in-Err-clause-turns_given_up g c =
    subst (HasTakenSome g.R.Reporter.taken) (sym c.in-Err.ensures.err)
    (taken_nothing g.R.Reporter.taken c.args.report c.args.runner c.requires.untaken)
