use Rattle.std.proofs.Common.{◌++◌, sym, subst}
use Rattle.run_output.specs.Fields.{line_bytes}
use Rattle.run_output.specs.Outcomes.{outcome_text}
use Rattle.run_cli.specs.Call.{writing_of}
use Rattle.run_cli.specs.Finish.{EndsAtOutcome}
use Rattle.run_cli.proofs.ShortLemmas.{short_front}
use Rattle.run_cli.proofs.ended.end_at_outcome.Goals as goal

pub returns-in-Err-OutOfMemory-clause-ends : goal.returns-in-Err-OutOfMemory-clause-ends
returns-in-Err-OutOfMemory-clause-ends g c =
    let end = c.end_without_memory in
    let w = writing_of g.K.Sink c.args.sink end.result.sink in
    subst (EndsAtOutcome w c.args.asks.now c.args.outcome) (sym end.ensures.ending)
    (short_front (c.args.asks.now ++ line_bytes (outcome_text c.args.outcome)) w
    (g.K.Sink.taken c.write_outcome.new.sink) end.ensures.said.0 c.in-Err-OutOfMemory.ensures.front
    end.ensures.said.1)
