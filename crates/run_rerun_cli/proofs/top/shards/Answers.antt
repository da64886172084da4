use Rattle.std.proofs.Common.{inl, ℕ, subst}
use Rattle.run_output.specs.Fields.{line_bytes}
use Rattle.run_cli.specs.Call.{writing_of}
use Rattle.run_rerun_cli.specs.LineEnds.{EndsWith}
use Rattle.run_rerun_cli.specs.ShardEnds.{end_text, end_unwritten}
use Rattle.run_rerun_cli.proofs.top.shards.Goals as goal

pub returns-in-Ok-clause-says : goal.returns-in-Ok-clause-says
returns-in-Ok-clause-says g c =
    let e = c.in-Ok.end in
    let w = writing_of g.K.Sink c.args.sink c.end_with.result.sink in
    let text = line_bytes (end_text e) in
    let status = c.end_with.result.status in
    let written = c.status-written.result in
    inl (
      e,
      c.in-Ok.ensures.says,
      subst (λ (n : ℕ). EndsWith w text n (end_unwritten e) status) c.status-written.ensures
          (subst (λ (n : ℕ). EndsWith w text written n status) c.unwritten_status-failed.ensures
          (c.end_with.ensures (end_text e) c.into_line-line.ensures)),
    )
