use Rattle.std.proofs.Common.{◌∙◌, rules}
use Rattle.run_engine.proofs.PartLemmas.{on_err}
use Rattle.run_jobs_cli.proofs.EndLemmas.{next_first, wrote_front, wrote_more, wrote_none}
use Rattle.run_jobs_cli.proofs.ends.write_states.Goals as goal

pub loop-job-init : goal.loop-job-init
loop-job-init g c = record {
  wrote = wrote_none c.args.jobs.now c.args.states.now (g.K.Sink.taken c.args.sink.now);
  calm = search rules;
}

pub loop-job-preserved : goal.loop-job-preserved
loop-job-preserved g c =
    let w = c.loop-job.invariant.wrote in
    let first = next_first c.args.states.now c.loop-job.job _ c.loop-job-test.true in
    record {
      wrote = wrote_more c.args.jobs.now c.args.states.now _ _ _ c.loop-job.job _ w first
          c.in_ok-write_state.ensures.ok;
      calm = c.in_ok-write_state.ensures.counted ∙ c.loop-job.invariant.calm;
    }

pub returns-in_err-write_state-clause-front : goal.returns-in_err-write_state-clause-front
returns-in_err-write_state-clause-front g c =
    let w = c.loop-job.invariant.wrote in
    let first = next_first c.args.states.now c.loop-job.job _ c.loop-job-test.true in
    on_err c.from_residual.result _
    (wrote_front c.args.jobs.now c.args.states.now _ _ _ c.loop-job.job _ w first c.in_err-write_state.ensures.front)
