-- The call does its deed, and the timer and the stopwatches stay current.
use Rattle.std.proofs.Common.{None}
use Rattle.run_model.specs.Turns.{ends_at}
use Rattle.run_dispatch.proofs.CurrentLemmas.{done_current}
use Rattle.run_dispatch.proofs.SeenLemmas.{does_seen}
use Rattle.run_dispatch.proofs.dispatcher.Dispatcher.end.Goals as goal

pub returns-clause-does : goal.returns-clause-does
returns-clause-does c =
    does_seen c.args.now c.self.inside.view c.args.self.now (ends_at c.args.now)
    c.end_sub_run.new.view c.end_sub_run.result c.self.view_is
    c.end_sub_run.ensures.does

pub invariant_of-self : goal.invariant_of-self
invariant_of-self c =
    done_current c.args.now c.self.inside.view c.end_sub_run.new.view
    (ends_at c.args.now c.self.inside.view) None c.end_sub_run.result
    (rw c.self.view_is c.requires.later) c.self.invariant c.end_sub_run.ensures.does c.end_sub_run.ensures.err
