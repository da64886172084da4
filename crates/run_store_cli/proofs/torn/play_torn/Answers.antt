use Rattle.std.proofs.Common.{inl, Ok, subst}
use Rattle.run_engine.specs.Builder.{IsBuilt}
use Rattle.run_cli.specs.Call.{writing_of}
use Rattle.run_cli.specs.Plans.{builder_of}
use Rattle.run_store_cli.specs.Ends.{EndsSo}
use Rattle.run_store_cli.specs.Torn.{IsTornEnd}
use Rattle.run_store_cli.proofs.TornLemmas.{refused_torn}
use Rattle.run_store_cli.proofs.torn.play_torn.Goals as goal

pub returns-in-Ok : goal.returns-in-Ok
returns-in-Ok g c =
    let input = c.args.input in
    let status = c.play_turns.result.status in
    let w = writing_of g.K.Sink c.args.sink c.play_turns.result.sink in
    let built : IsBuilt (builder_of input.keys) input.plan (Ok c.in-Ok.runner) = c.in-Ok.ensures in
    inl (
      built.0,
      subst (λ p. IsTornEnd p input.turns w status) built.1
          (subst (λ ts. IsTornEnd c.in-Ok.runner ts w status) c.as_slice.ensures c.play_turns.ensures),
    )

pub returns : goal.returns
returns g c =
    let input = c.args.input in
    let end = c.end_at in
    let w = writing_of g.K.Sink c.args.sink end.result.sink in
    refused_torn input.keys input.plan input.turns w c.in-Err.error end.result.status c.in-Err.ensures
    (subst (λ fault. EndsSo w fault end.result.status) c.fault_of_plan.ensures end.ensures)
