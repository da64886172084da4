use Rattle.std.proofs.Common.{inr, refl}
use Rattle.run_cli.specs.Call.{writing_of}
use Rattle.run_cli.proofs.ShortLemmas.{short_front}
use Rattle.run_jobs_cli.specs.StateLines.{state_lines}
use Rattle.run_jobs_cli.proofs.ends.end_at_states.Goals as goal

pub returns-in-Err-OutOfMemory : goal.returns-in-Err-OutOfMemory
returns-in-Err-OutOfMemory g c =
    let end = c.end_without_memory-sink in
    let w = writing_of g.K.Sink c.args.sink end.result.sink in
    inr (inr (
      refl,
      short_front (state_lines c.args.jobs.now 0 c.args.states.now) w (g.K.Sink.taken c.write_states.new.sink)
          end.ensures.said.0 c.in-Err-OutOfMemory.ensures.front end.ensures.said.1,
    ))
