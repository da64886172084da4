-- The call does its deed, and the timer and the stopwatches stay current.
use Rattle.std.proofs.Common.{None, sym}
use Rattle.run_model.specs.Turns.{stops_itself}
use Rattle.run_dispatch.proofs.CurrentLemmas.{acted_current}
use Rattle.run_dispatch.proofs.SeenLemmas.{does_so}
use Rattle.run_dispatch.proofs.dispatcher.Dispatcher.stop_wait_due.Goals as goal

pub returns : goal.returns
returns c =
    rw (sym c.self.view_is)
    (does_so c.args.now c.self.inside.view stops_itself None c.stop_itself.new.view c.stop_itself.result
    c.stop_itself.ensures)

pub invariant_of-self : goal.invariant_of-self
invariant_of-self c =
    acted_current c.args.now c.self.inside.view c.stop_itself.new.view stops_itself None c.stop_itself.result
    (rw c.self.view_is c.requires.later) c.self.invariant c.stop_itself.ensures
