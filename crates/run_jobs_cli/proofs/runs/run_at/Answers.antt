use Rattle.run_jobs_cli.proofs.RunLemmas.{came_so, runs_so}
use Rattle.run_jobs_cli.proofs.runs.run_at.Goals as goal

pub returns-clause-says : goal.returns-clause-says
returns-clause-says g c =
    let answer = c.run_waves-answer.result in (
      answer,
      runs_so _ _ _ c.args.jobs.now c.args.turns.now answer (g.K.Sink.taken c.args.sink)
          (g.K.Sink.taken c.into_sink-sink.result) (g.K.Sink.taken c.finish.result.sink)
          (g.K.Sink.faults c.args.sink) (g.K.Sink.faults c.into_sink-sink.result)
          (g.K.Sink.faults c.finish.result.sink) c.run_waves-answer.new.report.lines.refusals c.finish.result.status
          (record {
            none = c.new-reporter.ensures.told;
            tied = λ answers told.
                rw c.requires.taken at (rw c.requires.faults at (c.into_sink-sink.ensures.told answers told));
          })
          c.run_waves-answer.ensures.says c.finish.ensures,
    )

pub returns-clause-comes : goal.returns-clause-comes
returns-clause-comes g c =
    came_so _ _ _ c.args.jobs.now c.args.turns.now c.run_waves-answer.result (g.K.Sink.taken c.args.sink)
    (g.K.Sink.taken c.into_sink-sink.result) (g.K.Sink.taken c.finish.result.sink)
    (g.K.Sink.faults c.args.sink) (g.K.Sink.faults c.into_sink-sink.result)
    (g.K.Sink.faults c.finish.result.sink) c.run_waves-answer.new.report.lines.refusals c.finish.result.status
    (record {
      none = c.new-reporter.ensures.told;
      tied = λ answers told.
          rw c.requires.taken at (rw c.requires.faults at (c.into_sink-sink.ensures.told answers told));
    })
    c.new-reporter.ensures.faults c.run_waves-answer.ensures.says c.finish.ensures c.run_waves-answer.ensures.comes
