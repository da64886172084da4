use Rattle.std.proofs.Common.{inl, ◌++◌, refl, sym, subst}
use Rattle.run_output.specs.Asks.{ask_lines}
use Rattle.run_output.specs.Faults.{fault_text}
use Rattle.run_cli.specs.Call.{writing_of}
use Rattle.run_cli.specs.Finish.{EndsAtFault}
use Rattle.run_cli.specs.Text.{fault_only}
use Rattle.run_cli.proofs.ShortLemmas.{lines_some, short_none}
use Rattle.run_cli.proofs.live.fault_after.Goals as goal

pub returns-in-Err : goal.returns-in-Err
returns-in-Err g c =
    let end = c.end_without_memory in
    let w = writing_of g.K.Sink c.args.sink end.result.sink in
    let asks = ask_lines c.args.asks.now in
    subst (EndsAtFault w asks c.args.fault) (sym end.ensures.ending)
    (inl (
      refl,
      short_none (asks ++ fault_only c.args.fault) w end.ensures.said.0
          (lines_some asks (fault_text c.args.fault)) end.ensures.said.1,
    ))
