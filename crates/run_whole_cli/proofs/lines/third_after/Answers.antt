use Rattle.std.proofs.Common.{◌++◌, ap₂, refl, subst}
use Rattle.run_cli.specs.Call.{writing_of, Writes}
use Rattle.run_whole_cli.proofs.lines.third_after.Goals as goal

pub returns-in-Ok : goal.returns-in-Ok
returns-in-Ok g c =
    let v = writing_of g.K.Sink c.args.sink c.write_refusal.result in (
      refl,
      subst (Writes v) (ap₂ (λ asks last. asks ++ last) c.in-Ok.ensures.asks c.in-Ok.ensures.last)
          c.write_refusal.ensures,
    )
