use Rattle.std.proofs.Common.{[], refl, arith}
use Rattle.run_engine.proofs.UnkeptLemmas.{fresh_board}
use Rattle.run_engine.proofs.lean.LeanRun.begin.Goals as goal

pub invariant_of-result : goal.invariant_of-result
invariant_of-result c = λ sound. (
  [],
  record {
    runnable = record { few = c.requires.few; short = omega arith; legal = tt };
    stands = fresh_board c.args.settings c.args.state c.requires.stands;
    many = refl;
  },
)
