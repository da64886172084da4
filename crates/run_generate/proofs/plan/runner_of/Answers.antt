-- The plan has few tests, and is accepted.
use Rattle.std.proofs.Common.{length, ap, subst, ◌∙◌, arith, Err}
use Rattle.std.proofs.lemmas.List.FromFn.{length-map-range_with_len}
use Rattle.run_events.specs.declared.plan.Plan.{Plan}
use Rattle.run_engine.specs.Builder.{IsBuilt, refusal_of}
use Rattle.run_generate.specs.Plan.{generated_builder, test_at}
use Rattle.run_generate.proofs.AcceptLemmas.{memory_only}
use Rattle.run_generate.proofs.plan.runner_of.Goals as goal

pub build-requires : goal.build-requires
build-requires c = omega (
  arith,
  ap (λ (p : Plan). length p.scripts) c.in_ok-plan.ensures,
  ap (λ (p : Plan). length p.tests) c.in_ok-plan.ensures,
  length-map-range_with_len test_at 0 c.args.count,
)

pub memory_of-requires : goal.memory_of-requires
memory_of-requires c =
    memory_only c.args.count c.requires generated_builder c.in_ok-plan.plan c.in-Err.error
    (ap (refusal_of generated_builder) c.in_ok-plan.ensures)
    (subst (λ b. IsBuilt b c.in_ok-plan.plan (Err c.in-Err.error)) c.builder.ensures c.in-Err.ensures.built)
