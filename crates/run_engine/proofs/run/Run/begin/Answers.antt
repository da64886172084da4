use Rattle.std.proofs.Common.{false, [], refl, sym, subst, arith}
use Rattle.run_engine.specs.Standing.{IsStanding}
use Rattle.run_engine.proofs.run.Run.begin.Goals as goal

pub invariant_of-result : goal.invariant_of-result
invariant_of-result c =
    subst (λ starts. IsStanding c.args.settings c.new.result.items c.args.state false starts 0)
    (sym c.new-2.ensures.items)
    (subst (λ journal. IsStanding c.args.settings journal c.args.state false [] 0) (sym c.new.ensures.items) (record {
      runnable = record { few = c.requires.few; short = omega arith; legal = tt };
      stands = λ e. c.requires.stands;
      unfinished = λ e. cc;
      claims = record { few = omega arith; rest = refl };
    }))
