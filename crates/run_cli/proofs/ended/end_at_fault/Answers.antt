use Rattle.std.proofs.Common.{inl, ◌++◌, refl, sym, subst}
use Rattle.run_cli.specs.Call.{writing_of}
use Rattle.run_cli.specs.Finish.{EndsAtFault}
use Rattle.run_cli.specs.Text.{fault_only}
use Rattle.run_cli.proofs.ShortLemmas.{short_front}
use Rattle.run_cli.proofs.ended.end_at_fault.Goals as goal

pub returns-in-Err-OutOfMemory : goal.returns-in-Err-OutOfMemory
returns-in-Err-OutOfMemory g c =
    let end = c.end_without_memory in
    let w = writing_of g.K.Sink c.args.sink end.result.sink in
    subst (EndsAtFault w c.args.asks.now c.args.fault) (sym end.ensures.ending)
    (inl (
      refl,
      short_front (c.args.asks.now ++ fault_only c.args.fault) w (g.K.Sink.taken c.write_fault.new.sink)
          end.ensures.said.0 c.in-Err-OutOfMemory.ensures.front end.ensures.said.1,
    ))
