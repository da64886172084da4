use Rattle.std.proofs.Common.{inr, subst}
use Rattle.run_output.specs.Fields.{line_bytes}
use Rattle.run_cli.specs.Call.{writing_of}
use Rattle.run_cli.proofs.ShortLemmas.{short_none}
use Rattle.run_cli.proofs.TextLemmas.{line_some}
use Rattle.run_rerun_cli.specs.LineEnds.{EndsWith}
use Rattle.run_rerun_cli.proofs.ends.end_with.Goals as goal

pub returns-in-Ok : goal.returns-in-Ok
returns-in-Ok g c = λ text is.
    let end = c.end_with_text.result in
    let same = rw c.in-Ok.is at is in
    subst (λ t. EndsWith (writing_of g.K.Sink c.args.sink end.sink) (line_bytes t) c.args.written c.args.failed
    end.status) same c.end_with_text.ensures

pub returns-in-Err : goal.returns-in-Err
returns-in-Err g c = λ text is.
    let end = c.end_early in
    inr (inr (
      end.ensures.0,
      short_none (line_bytes text) (writing_of g.K.Sink c.args.sink end.result.sink) end.ensures.1.0 (line_some text)
          end.ensures.1.1,
    ))
