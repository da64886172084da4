use Rattle.std.proofs.Common.{refl}
use Rattle.run_cli.specs.Call.{writing_of}
use Rattle.run_cli.proofs.RunOutLemmas.{nothing_ran}
use Rattle.run_cli.proofs.execution.show.Goals as goal

pub returns-in-Err : goal.returns-in-Err
returns-in-Err g c = (
  tt,
  λ _. nothing_ran c.args.runner c.args.width c.args.turns.now
      (writing_of g.K.Sink c.args.sink c.args.sink) _ refl refl c.new.ensures,
)
