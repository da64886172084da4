-- The call does its deed, and the timer and the stopwatches stay current.
use Rattle.std.proofs.Common.{None, sym}
use Rattle.run_model.specs.Turns.{begins_at}
use Rattle.run_dispatch.proofs.CurrentLemmas.{done_current}
use Rattle.run_dispatch.proofs.SeenLemmas.{does_as}
use Rattle.run_dispatch.proofs.dispatcher.Dispatcher.begin.Goals as goal

pub returns-clause-does : goal.returns-clause-does
returns-clause-does c =
    rw (sym c.self.view_is)
    (does_as c.args.now c.self.inside.view (begins_at c.args.now c.self.inside.view) None
    c.begin_sub_run.new.view c.begin_sub_run.result c.begin_sub_run.ensures.does)

pub invariant_of-self : goal.invariant_of-self
invariant_of-self c =
    done_current c.args.now c.self.inside.view c.begin_sub_run.new.view
    (begins_at c.args.now c.self.inside.view) None c.begin_sub_run.result
    (rw c.self.view_is c.requires.later) c.self.invariant c.begin_sub_run.ensures.does c.begin_sub_run.ensures.err
