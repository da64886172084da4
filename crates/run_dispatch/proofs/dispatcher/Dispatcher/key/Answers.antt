-- The call does its deed, and the timer and the stopwatches stay current.
use Rattle.std.proofs.Common.{None}
use Rattle.run_model.specs.declared.dispatcher_view.DispatcherView.{DispatcherView}
use Rattle.run_model.specs.Turns.{key_deed, keys_at}
use Rattle.run_dispatch.proofs.CurrentLemmas.{done_current}
use Rattle.run_dispatch.proofs.SeenLemmas.{does_seen, heard_does}
use Rattle.run_dispatch.proofs.dispatcher.Dispatcher.key.Goals as goal

pub returns-clause-does : goal.returns-clause-does
returns-clause-does c =
    does_seen c.args.now c.self.inside.view c.args.self.now
    (λ (d : DispatcherView). keys_at c.args.now c.args.facts.live d c.args.key)
    c.hear_key.new.view c.hear_key.result c.self.view_is
    (heard_does c.args.now c.self.inside.view (key_deed c.args.now c.args.facts.live c.self.inside.view)
    c.hear_key.new.view c.hear_key.result c.hears_key-heard.ensures c.hear_key.ensures.does)

pub invariant_of-self : goal.invariant_of-self
invariant_of-self c =
    done_current c.args.now c.self.inside.view c.hear_key.new.view
    (key_deed c.args.now c.args.facts.live c.self.inside.view c.hears_key-heard.result) None c.hear_key.result
    (rw c.self.view_is c.requires.later) c.self.invariant c.hear_key.ensures.does c.hear_key.ensures.err
