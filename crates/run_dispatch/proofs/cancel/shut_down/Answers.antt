use Rattle.run_dispatch.proofs.SignalLemmas.{signal_does}
use Rattle.run_dispatch.proofs.cancel.shut_down.Goals as goal

pub returns-clause-does : goal.returns-clause-does
returns-clause-does c =
    signal_does c.args.now c.args.view.now c.cancel_for.new.view c.args.signal c.signal-cause.result
    c.in_ok-effects.effects c.signal-cause.ensures c.in_ok-effects.ensures.told c.in_ok-effects.ensures.after
