use Rattle.std.proofs.Common.{sym}
use Rattle.run_model.specs.Turns.{ticks}
use Rattle.run_dispatch.proofs.SeenLemmas.{does_always}
use Rattle.run_dispatch.proofs.dispatcher.Dispatcher.tick.Goals as goal

pub returns-clause-does : goal.returns-clause-does
returns-clause-does c =
    rw (sym c.self.view_is) (does_always c.self.inside.view ticks c.tick.result c.tick.ensures.does)
