use Rattle.std.proofs.Common.{◌++◌, sym, subst}
use Rattle.run_output.specs.Asks.{ask_lines}
use Rattle.run_output.specs.Fields.{line_bytes}
use Rattle.run_output.specs.Outcomes.{outcome_text}
use Rattle.run_cli.specs.Call.{writing_of}
use Rattle.run_cli.specs.Finish.{EndsAtOutcome}
use Rattle.run_cli.proofs.ShortLemmas.{lines_some, short_none}
use Rattle.run_cli.proofs.live.outcome_after.Goals as goal

pub returns-in-Err : goal.returns-in-Err
returns-in-Err g c =
    let end = c.end_without_memory in
    let w = writing_of g.K.Sink c.args.sink end.result.sink in
    let asks = ask_lines c.args.asks.now in
    subst (EndsAtOutcome w asks c.args.outcome) (sym end.ensures.ending)
    (short_none (asks ++ line_bytes (outcome_text c.args.outcome)) w end.ensures.said.0
    (lines_some asks (outcome_text c.args.outcome)) end.ensures.said.1)
