use Rattle.std.proofs.Common.{refl, subst, sym}
use Rattle.run_cli.specs.Call.{writing_of}
use Rattle.run_cli.specs.Finish.{IsAnswered}
use Rattle.run_cli.specs.Text.{whole_form}
use Rattle.run_store_cli.proofs.torn.play_turns.Goals as goal

pub returns : goal.returns
returns g c =
    let w = writing_of g.K.Sink c.args.sink c.execute-sink.result.sink in
    c.finish_torn.ensures c.args.runner c.args.turns.now w refl refl refl
    (subst (λ asks. IsAnswered whole_form c.args.runner c.args.turns.now w asks c.execute-sink.result.answer)
    (sym c.as_bytes.ensures) c.execute-sink.ensures)
