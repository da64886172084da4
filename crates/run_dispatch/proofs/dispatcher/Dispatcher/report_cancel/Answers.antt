-- The call does its deed, and the timer and the stopwatches stay current.
use Rattle.std.proofs.Common.{None, sym}
use Rattle.run_model.specs.Cancel.{event_refused}
use Rattle.run_model.specs.Turns.{cancels_for}
use Rattle.run_dispatch.proofs.CurrentLemmas.{done_current}
use Rattle.run_dispatch.proofs.SeenLemmas.{does_as}
use Rattle.run_dispatch.proofs.dispatcher.Dispatcher.report_cancel.Goals as goal

pub returns-clause-does : goal.returns-clause-does
returns-clause-does c =
    rw (sym c.self.view_is)
    (does_as c.args.now c.self.inside.view (cancels_for c.args.now c.self.inside.view event_refused) None
    c.refuse.new.view c.refuse.result c.refuse.ensures.does)

pub invariant_of-self : goal.invariant_of-self
invariant_of-self c =
    done_current c.args.now c.self.inside.view c.refuse.new.view
    (cancels_for c.args.now c.self.inside.view event_refused) None c.refuse.result
    (rw c.self.view_is c.requires.later) c.self.invariant c.refuse.ensures.does c.refuse.ensures.err
