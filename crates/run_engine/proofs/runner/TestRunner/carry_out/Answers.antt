use Rattle.std.proofs.Common.{[], arith, subst}
use Rattle.run_model.specs.Admission.{AreFew}
use Rattle.run_engine.proofs.PartLemmas.{runs_out_at_first}
use Rattle.run_engine.proofs.runner.TestRunner.carry_out.Goals as goal

pub returns-clause-memory : goal.returns-clause-memory
returns-clause-memory g c = λ e. (
  [],
  runs_out_at_first g.R.Reporter.told g.C.Children.asked g.R.Reporter.faults c.args.self c.args.turns.now
      c.args.report.now c.args.children.now (record {
        few = subst AreFew c.self.view_is c.self.invariant.0;
        short =
            omega arith;
        legal = tt;
      }),
)
