use Rattle.std.proofs.Common.{inl, refl}
use Rattle.run_cli.specs.Call.{writing_of}
use Rattle.run_cli.proofs.ShortLemmas.{short_front}
use Rattle.run_jobs_cli.specs.JobsEnds.{jobs_fault_only}
use Rattle.run_jobs_cli.proofs.ends.end_at.Goals as goal

pub returns-in-Err-OutOfMemory : goal.returns-in-Err-OutOfMemory
returns-in-Err-OutOfMemory g c =
    let end = c.end_without_memory-sink in
    let w = writing_of g.K.Sink c.args.sink end.result.sink in
    inl (
      refl,
      short_front (jobs_fault_only c.args.fault) w (g.K.Sink.taken c.write_jobs_fault.new.sink)
          end.ensures.said.0 c.in-Err-OutOfMemory.ensures.front end.ensures.said.1,
    )
