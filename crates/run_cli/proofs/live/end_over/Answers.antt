use Rattle.std.proofs.Common.{subst}
use Rattle.run_cli.specs.Call.{writing_of}
use Rattle.run_output.specs.Asks.{ask_lines}
use Rattle.run_cli.specs.Lived.{EndsOver}
use Rattle.run_cli.proofs.RunEndLemmas.{over_ends}
use Rattle.run_cli.proofs.live.end_over.Goals as goal

pub returns : goal.returns
returns g c = λ p w n on from closed over.
    let lines = c.last_lines-ended in
    let v = writing_of g.K.Sink c.args.sink lines.result.sink in
    let written = subst (λ asks. EndsOver v (ask_lines asks) c.args.outcome c.args.refused lines.result.ending)
    c.asks.ensures lines.ensures in
    rw (c.with_live.ensures.ending, c.with_live.ensures.live, c.with_live.ensures.sink)
    (over_ends g.W.Spawner.has_said p w v n c.args.live c.args.asks c.args.outcome c.args.refused lines.result.ending
    on from closed over written)
