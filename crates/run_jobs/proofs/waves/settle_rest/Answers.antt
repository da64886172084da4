use Rattle.std.proofs.Common.{◌∙◌, ◌≤◌, ◌<◌, ◌^◌, length, None, arith}
use Rattle.run_jobs.proofs.AcceptLemmas.{sound_jobs}
use Rattle.run_jobs.proofs.FaultLemmas.{in_order}
use Rattle.run_jobs.proofs.NextLemmas.{level_few, level_jobs, no_wave, settled_known}
use Rattle.run_jobs.proofs.waves.settle_rest.Goals as goal

pub settle-requires-clause-jobs : goal.settle-requires-clause-jobs
settle-requires-clause-jobs c =
    level_jobs c.args.jobs.now.jobs c.list-in-loop-level.result.now c.at_level.result.now c.loop-level.level
    c.at_level.ensures c.list-in-loop-level.ensures.jobs

pub settle-requires-clause-few : goal.settle-requires-clause-few
settle-requires-clause-few c =
    let low : length c.at_level.result.now ≤ length c.args.jobs.now.jobs =
    level_few c.args.jobs.now.jobs c.at_level.result.now c.loop-level.level c.at_level.ensures in
    let few : length c.args.jobs.now.jobs < 2 ^ 32 = c.list-in-loop-level.ensures.few in
    omega arith

pub loop-level-preserved : goal.loop-level-preserved
loop-level-preserved c = record {
  known = λ waves count known.
      let jobs = c.args.jobs.now.jobs in
      let w = c.loop-level.level in
      let low : c.args.from ≤ w = c.loop-level.auto.level in
      settled_known jobs c.list-in-loop-level.result.now c.at_level.result.now w None c.loop-level.states
      c.settle.new.states waves c.list-in-loop-level.ensures.jobs c.at_level.ensures
      (in_order jobs (sound_jobs c.args.jobs.now.threads jobs c.list-in-loop-level.ensures.sound)) c.settle.ensures
      (no_wave waves w (omega arith)) (c.loop-level.invariant.known waves count known);
  same = c.settle.auto.states ∙ c.loop-level.invariant.same;
}
