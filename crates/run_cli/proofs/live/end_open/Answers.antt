use Rattle.std.proofs.Common.{subst}
use Rattle.run_cli.specs.Call.{writing_of}
use Rattle.run_output.specs.Asks.{ask_lines}
use Rattle.run_cli.specs.Finish.{EndsAtFault}
use Rattle.run_cli.proofs.RunEndLemmas.{open_ends}
use Rattle.run_cli.proofs.live.end_open.Goals as goal

pub returns : goal.returns
returns g c = λ p w n on from closed none x.
    let lines = c.fault_after-ended in
    let v = writing_of g.K.Sink c.args.sink lines.result.sink in
    let written = subst (λ asks. EndsAtFault v (ask_lines asks) c.open_fault.result lines.result.ending)
    c.asks.ensures lines.ensures in
    rw (c.with_live.ensures.ending, c.with_live.ensures.live, c.with_live.ensures.sink)
    (open_ends g.W.Spawner.has_said p w v n c.args.live c.args.asks c.open_fault.result lines.result.ending on from
    closed none x c.open_fault.ensures written)
