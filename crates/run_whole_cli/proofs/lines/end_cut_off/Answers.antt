use Rattle.std.proofs.Common.{subst}
use Rattle.run_output.specs.Asks.{ask_lines}
use Rattle.run_cli.specs.Call.{writing_of}
use Rattle.run_whole_cli.specs.Last.{EndsAtThird}
use Rattle.run_whole_cli.proofs.lines.end_cut_off.Goals as goal

pub returns-clause-ending : goal.returns-clause-ending
returns-clause-ending g c =
    let end = c.third_after-ending in
    let v = writing_of g.K.Sink c.args.sink end.result.1 in
    subst (λ n. EndsAtThird v (ask_lines c.args.cut_off.asks) n end.result.0) c.len-turn.ensures
    (subst (λ asks. EndsAtThird v (ask_lines asks) c.len-turn.result end.result.0) c.asks.ensures end.ensures)
