use Rattle.std.proofs.Common.{◌≡◌, ◌∙◌, ◌≤◌, ◌<◌, ◌^◌, length, Some, Ok}
use Rattle.std.proofs.Common.{subst, arith}
use Rattle.run_engine.specs.World.{outside}
use Rattle.run_jobs.specs.Levels.{AreOrdered}
use Rattle.run_jobs.specs.Next.{AnswersDue, AnswersNext}
use Rattle.run_jobs.specs.States.{ready_jobs}
use Rattle.run_jobs.proofs.AcceptLemmas.{sound_jobs}
use Rattle.run_jobs.proofs.FaultLemmas.{in_order}
use Rattle.run_jobs.proofs.NextLemmas.{cancelled_due, level_few, level_jobs, next_stops, none_at, none_due}
use Rattle.run_jobs.proofs.NextLemmas.{quiet_more, settled_known}
use Rattle.run_jobs.proofs.WaveLemmas.{at_first, one_wave, settled_wave}
use Rattle.run_jobs.proofs.waves.run_due.Goals as goal

pub loop-wave-init : goal.loop-wave-init
loop-wave-init g c = record {
  at = at_first g.R.Reporter.told g.C.Children.asked g.R.Reporter.faults c.args.report.now c.args.children.now
      c.args.jobs.now c.args.turns.now c.args.states.now;
  same = c.requires.states;
}

pub settle-requires-clause-jobs : goal.settle-requires-clause-jobs
settle-requires-clause-jobs g c =
    level_jobs c.args.jobs.now.jobs c.list-in-Ok-Some.result.now c.at_level.result.now c.loop-wave.wave
    c.at_level.ensures c.list-in-Ok-Some.ensures.jobs

pub settle-requires-clause-few : goal.settle-requires-clause-few
settle-requires-clause-few g c =
    let low : length c.at_level.result.now ≤ length c.args.jobs.now.jobs =
    level_few c.args.jobs.now.jobs c.at_level.result.now c.loop-wave.wave c.at_level.ensures in
    let few : length c.args.jobs.now.jobs < 2 ^ 32 = c.list-in-Ok-Some.ensures.few in
    omega arith

pub returns-then-cancelled-clause-says : goal.returns-then-cancelled-clause-says
returns-then-cancelled-clause-says g c =
    let batch = c.args.jobs.now in
    let ordered : AreOrdered batch.jobs = in_order batch.jobs (sound_jobs batch.threads batch.jobs
    c.list.ensures.sound) in
    let w = c.loop-wave.wave in
    let next = subst (λ o. AnswersNext g.R.Reporter.told g.C.Children.asked
    (outside g.R.Reporter.faults c.loop-wave.report c.run_next.new.report c.loop-wave.children c.run_next.new.children)
    batch (ready_jobs batch.jobs c.loop-wave.states w) c.args.turns.now w (Ok o)) c.in-Ok-Some.field-0-is
    c.in-Ok-Some.ensures in
    let after = one_wave g.R.Reporter.told g.C.Children.asked g.R.Reporter.faults c.args.report.now c.loop-wave.report
    c.run_next.new.report c.args.children.now c.loop-wave.children c.run_next.new.children batch c.args.turns.now
    c.loop-wave.states w c.in-Ok-Some.cancelled c.in-Ok-Some.results next.1.0 ordered c.loop-wave.invariant.at next.0
    next.1.1 next.1.2 in
    cancelled_due g.R.Reporter.told g.C.Children.asked _ batch c.args.turns.now c.loop-wave.states c.settle.new.states w
    c.in-Ok-Some.cancelled c.in-Ok-Some.results after c.if-cancelled.true
    (settled_known batch.jobs c.list-in-Ok-Some.result.now c.at_level.result.now w (Some c.in-Ok-Some.results)
    c.loop-wave.states c.settle.new.states after.waves c.list-in-Ok-Some.ensures.jobs c.at_level.ensures ordered
    c.settle.ensures after.gives after.known)

pub returns-in-Ok-None-clause-says : goal.returns-in-Ok-None-clause-says
returns-in-Ok-None-clause-says g c =
    let batch = c.args.jobs.now in
    let ordered : AreOrdered batch.jobs = in_order batch.jobs (sound_jobs batch.threads batch.jobs
    c.list.ensures.sound) in
    let w = c.loop-wave.wave in
    let next = subst (λ o. AnswersNext g.R.Reporter.told g.C.Children.asked
    (outside g.R.Reporter.faults c.loop-wave.report c.run_next.new.report c.loop-wave.children c.run_next.new.children)
    batch (ready_jobs batch.jobs c.loop-wave.states w) c.args.turns.now w (Ok o)) c.in-Ok-None.field-0-is
    c.in-Ok-None.ensures in
    none_due g.R.Reporter.told g.C.Children.asked _ batch c.args.turns.now c.loop-wave.states w ordered
    (quiet_more g.R.Reporter.told g.C.Children.asked g.R.Reporter.faults c.args.report.now c.loop-wave.report
    c.run_next.new.report c.args.children.now c.loop-wave.children c.run_next.new.children batch c.args.turns.now
    c.loop-wave.states w c.loop-wave.invariant.at next.1) next.0

pub returns-in-Err-clause-says : goal.returns-in-Err-clause-says
returns-in-Err-clause-says g c =
    let batch = c.args.jobs.now in
    let ordered : AreOrdered batch.jobs = in_order batch.jobs (sound_jobs batch.threads batch.jobs
    c.list.ensures.sound) in
    next_stops g.R.Reporter.told g.C.Children.asked g.R.Reporter.faults c.args.report.now c.loop-wave.report
    c.run_next.new.report c.args.children.now c.loop-wave.children c.run_next.new.children batch c.args.turns.now
    c.loop-wave.states c.loop-wave.wave c.in-Err.error ordered c.loop-wave.invariant.at c.in-Err.ensures

pub loop-wave-preserved : goal.loop-wave-preserved
loop-wave-preserved g c =
    let batch = c.args.jobs.now in
    let ordered : AreOrdered batch.jobs = in_order batch.jobs (sound_jobs batch.threads batch.jobs
    c.list.ensures.sound) in
    let w = c.loop-wave.wave in
    let next = subst (λ o. AnswersNext g.R.Reporter.told g.C.Children.asked
    (outside g.R.Reporter.faults c.loop-wave.report c.run_next.new.report c.loop-wave.children c.run_next.new.children)
    batch (ready_jobs batch.jobs c.loop-wave.states w) c.args.turns.now w (Ok o)) c.in-Ok-Some.field-0-is
    c.in-Ok-Some.ensures in
    let after = one_wave g.R.Reporter.told g.C.Children.asked g.R.Reporter.faults c.args.report.now c.loop-wave.report
    c.run_next.new.report c.args.children.now c.loop-wave.children c.run_next.new.children batch c.args.turns.now
    c.loop-wave.states w c.in-Ok-Some.cancelled c.in-Ok-Some.results next.1.0 ordered c.loop-wave.invariant.at next.0
    next.1.1 next.1.2 in
    record {
      at = settled_wave g.R.Reporter.told g.C.Children.asked _ batch c.args.turns.now c.loop-wave.states
          c.settle.new.states w c.in-Ok-Some.cancelled c.in-Ok-Some.results after c.if-cancelled.false
          (settled_known batch.jobs c.list-in-Ok-Some.result.now c.at_level.result.now w (Some c.in-Ok-Some.results)
          c.loop-wave.states c.settle.new.states after.waves c.list-in-Ok-Some.ensures.jobs c.at_level.ensures ordered
          c.settle.ensures after.gives after.known);
      same = c.settle.auto.states ∙ c.loop-wave.invariant.same;
    }

pub returns-clause-says : goal.returns-clause-says
returns-clause-says g c =
    let batch = c.args.jobs.now in
    let ordered : AreOrdered batch.jobs = in_order batch.jobs (sound_jobs batch.threads batch.jobs
    c.list.ensures.sound) in
    let w = c.loop-wave.wave in
    let all : length batch.jobs ≤ w = subst (λ js. length js ≤ w) c.list.ensures.jobs c.loop-wave-test.false in
    let o = outside g.R.Reporter.faults c.args.report.now c.loop-wave.report c.args.children.now c.loop-wave.children in
    let high : w ≤ length c.list.result.now = c.loop-wave.auto.wave-end in
    let ended : w ≡ length c.list.result.now = omega (arith, c.loop-wave-test.false, high) in
    subst (λ n. AnswersDue g.R.Reporter.told g.C.Children.asked o batch c.args.turns.now c.loop-wave.states (Ok
    n)) ended
    (none_due g.R.Reporter.told g.C.Children.asked o batch c.args.turns.now c.loop-wave.states w ordered
    c.loop-wave.invariant.at (none_at batch.jobs c.loop-wave.states w ordered all))
