-- The call does its deed, and the timer and the stopwatches stay current.
use Rattle.std.proofs.Common.{None, sym}
use Rattle.run_model.specs.Turns.{answers_at}
use Rattle.run_dispatch.proofs.CurrentLemmas.{done_current}
use Rattle.run_dispatch.proofs.SeenLemmas.{does_as}
use Rattle.run_dispatch.proofs.dispatcher.Dispatcher.answer.Goals as goal

pub returns-clause-does : goal.returns-clause-does
returns-clause-does c =
    rw (sym c.self.view_is)
    (does_as c.args.now c.self.inside.view (answers_at c.args.now c.self.inside.view c.args.response) None
    c.tell_answer.new.view c.tell_answer.result c.tell_answer.ensures.does)

pub invariant_of-self : goal.invariant_of-self
invariant_of-self c =
    done_current c.args.now c.self.inside.view c.tell_answer.new.view
    (answers_at c.args.now c.self.inside.view c.args.response) None c.tell_answer.result
    (rw c.self.view_is c.requires.later) c.self.invariant c.tell_answer.ensures.does c.tell_answer.ensures.err
