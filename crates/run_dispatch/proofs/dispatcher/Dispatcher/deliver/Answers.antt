-- The call does its deed, and the timer and the stopwatches stay current.
use Rattle.std.proofs.Common.{sym}
use Rattle.run_model.specs.Dispatch.{go_of}
use Rattle.run_model.specs.Turns.{delivers, nothing_done}
use Rattle.run_dispatch.proofs.CurrentLemmas.{done_current}
use Rattle.run_dispatch.proofs.SeenLemmas.{does_as}
use Rattle.run_dispatch.proofs.dispatcher.Dispatcher.deliver.Goals as goal

pub returns-clause-does : goal.returns-clause-does
returns-clause-does c =
    rw (sym c.self.view_is)
    (does_as c.args.now c.self.inside.view (delivers c.args.now c.self.inside.view c.args.message nothing_done)
    (go_of c.self.inside.view.tally c.args.message)
    c.hear.new.view c.hear.result c.hear.ensures.does)

pub invariant_of-self : goal.invariant_of-self
invariant_of-self c =
    done_current c.args.now c.self.inside.view c.hear.new.view
    (delivers c.args.now c.self.inside.view c.args.message nothing_done)
    (go_of c.self.inside.view.tally c.args.message) c.hear.result
    (rw c.self.view_is c.requires.later) c.self.invariant c.hear.ensures.does c.hear.ensures.err
