-- The call does its deed, and the timer and the stopwatches stay current.
use Rattle.std.proofs.Common.{None, sym}
use Rattle.run_model.specs.Turns.{informs_at}
use Rattle.run_dispatch.proofs.CurrentLemmas.{done_current}
use Rattle.run_dispatch.proofs.SeenLemmas.{does_as}
use Rattle.run_dispatch.proofs.dispatcher.Dispatcher.info_due.Goals as goal

pub returns-clause-does : goal.returns-clause-does
returns-clause-does c =
    rw (sym c.self.view_is)
    (does_as c.args.now c.self.inside.view (informs_at c.args.now c.self.inside.view) None
    c.end_round.new.view c.end_round.result c.end_round.ensures.does)

pub invariant_of-self : goal.invariant_of-self
invariant_of-self c =
    done_current c.args.now c.self.inside.view c.end_round.new.view
    (informs_at c.args.now c.self.inside.view) None c.end_round.result
    (rw c.self.view_is c.requires.later) c.self.invariant c.end_round.ensures.does c.end_round.ensures.err
