-- The call does its deed, and the timer and the stopwatches stay current.
use Rattle.std.proofs.Common.{None}
use Rattle.run_model.specs.declared.dispatcher_view.DispatcherView.{DispatcherView}
use Rattle.run_model.specs.Turns.{signal_deed, signals_at}
use Rattle.run_dispatch.proofs.CurrentLemmas.{done_current}
use Rattle.run_dispatch.proofs.SeenLemmas.{does_seen, heard_does}
use Rattle.run_dispatch.proofs.dispatcher.Dispatcher.signal.Goals as goal

pub returns-clause-does : goal.returns-clause-does
returns-clause-does c =
    does_seen c.args.now c.self.inside.view c.args.self.now
    (λ (d : DispatcherView). signals_at c.args.now c.args.facts.live d c.args.signal)
    c.hear_signal.new.view c.hear_signal.result c.self.view_is
    (heard_does c.args.now c.self.inside.view
    (signal_deed c.args.now c.args.facts.live c.self.inside.view c.args.signal)
    c.hear_signal.new.view c.hear_signal.result c.heard_by-heard.ensures c.hear_signal.ensures.does)

pub invariant_of-self : goal.invariant_of-self
invariant_of-self c =
    done_current c.args.now c.self.inside.view c.hear_signal.new.view
    (signal_deed c.args.now c.args.facts.live c.self.inside.view c.args.signal c.heard_by-heard.result) None
    c.hear_signal.result
    (rw c.self.view_is c.requires.later) c.self.invariant c.hear_signal.ensures.does c.hear_signal.ensures.err
