use Rattle.std.proofs.Common.{inr, refl}
use Rattle.run_output.specs.Fields.{line_bytes}
use Rattle.run_cli.specs.Call.{writing_of}
use Rattle.run_cli.proofs.ShortLemmas.{short_front}
use Rattle.run_audit_cli.specs.Verdicts.{verdict_line_text}
use Rattle.run_audit_cli.proofs.ends.end_at_verdict.Goals as goal

pub returns-in-Err-OutOfMemory : goal.returns-in-Err-OutOfMemory
returns-in-Err-OutOfMemory g c =
    let end = c.end_without_memory-sink in
    let w = writing_of g.K.Sink c.args.sink end.result.sink in
    inr (inr (
      refl,
      short_front (line_bytes (verdict_line_text c.args.verdict)) w (g.K.Sink.taken c.write_verdict.new.sink)
          end.ensures.said.0 c.in-Err-OutOfMemory.ensures.front end.ensures.said.1,
    ))
