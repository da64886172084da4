use Rattle.std.proofs.Common.{◌≡◌, ◌∙◌, ◌<◌, ◌+◌, ◌^◌, length, Some, sym, ap, subst, arith}
use Rattle.run_events.specs.declared.plan.Plan.{Plan}
use Rattle.run_engine.specs.Builder.{refusal_of}
use Rattle.run_jobs.specs.States.{ready_jobs}
use Rattle.run_jobs.specs.WavePlan.{wave_builder, wave_with}
use Rattle.run_jobs.proofs.AcceptLemmas.{accepted, few_ready, ready_within}
use Rattle.run_jobs.proofs.RunLemmas.{wave_there}
use Rattle.run_jobs.proofs.TestLemmas.{count_tests}
use Rattle.run_jobs.proofs.wave.wave_runner.Goals as goal

pub built-requires-clause-units : goal.built-requires-clause-units
built-requires-clause-units c =
    let batch = c.args.jobs.now in
    let s = c.args.states.now in
    let ks = ready_jobs batch.jobs s c.args.wave in
    let there : wave_with batch ks ≡ Some (c.in-Ok-Some.builder, c.in-Ok-Some.plan) =
    sym c.in-Ok-Some.ensures ∙ c.in-Ok-Some.field-0-is in
    let is = wave_there batch ks c.in-Ok-Some.builder c.in-Ok-Some.plan there in
    let count = count_tests batch.jobs ks (ready_within batch.jobs s c.args.wave) in
    let few : length batch.jobs < 2 ^ 32 = c.list-all.ensures.few in
    subst (λ (p : Plan). length p.scripts + length p.tests < 2 ^ 32) (sym is.1)
    (omega (arith, count, few_ready batch.jobs s c.args.wave, few))

pub built-requires-clause-accepted : goal.built-requires-clause-accepted
built-requires-clause-accepted c =
    let batch = c.args.jobs.now in
    let s = c.args.states.now in
    let ks = ready_jobs batch.jobs s c.args.wave in
    let there : wave_with batch ks ≡ Some (c.in-Ok-Some.builder, c.in-Ok-Some.plan) =
    sym c.in-Ok-Some.ensures ∙ c.in-Ok-Some.field-0-is in
    let is = wave_there batch ks c.in-Ok-Some.builder c.in-Ok-Some.plan there in
    ap (λ b. refusal_of b c.in-Ok-Some.plan) is.0 ∙ ap (refusal_of (wave_builder batch.threads)) is.1
    ∙ accepted batch s c.args.wave c.list-all.ensures.sound
