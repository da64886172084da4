use Rattle.std.proofs.Common.{sym, subst}
use Rattle.run_model.specs.Board.{Board}
use Rattle.run_engine.specs.Forgotten.{IsForgotten}
use Rattle.run_engine.proofs.KeptLemmas.{forgets}
use Rattle.run_engine.proofs.carry.forget.Goals as goal

pub returns-in-Some-clause-board : goal.returns-in-Some-clause-board
returns-in-Some-clause-board c = λ b before.
    subst (IsForgotten c.args.settings.now b) (sym c.forget.ensures.board)
    (forgets c.args.settings.now b c.args.state.now.board c.in-Some.unit before)
