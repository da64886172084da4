use Rattle.std.proofs.Common.{◌≡◌, Some, subst}
use Rattle.run_input.specs.Input.{plan_line_of}
use Rattle.run_cli.specs.Call.{writing_of}
use Rattle.run_store_cli.proofs.PlayLemmas.{plan_few, memory_plays}
use Rattle.run_store_cli.proofs.played.play_stored.Goals as goal

pub play_whole-requires-clause-units : goal.play_whole-requires-clause-units
play_whole-requires-clause-units g c =
    let a = c.in-Ok in
    plan_few c.args.stored.plan a.keys a.plan c.requires.plan
    (subst (λ line. plan_line_of line ≡ Some (a.keys, a.plan)) c.as_slice.ensures a.ensures)

pub play_torn-requires-clause-units : goal.play_torn-requires-clause-units
play_torn-requires-clause-units g c =
    let a = c.in-Ok in
    plan_few c.args.stored.plan a.keys a.plan c.requires.plan
    (subst (λ line. plan_line_of line ≡ Some (a.keys, a.plan)) c.as_slice.ensures a.ensures)

pub returns : goal.returns
returns g c = λ r given.
    let end = c.end_at.result in
    memory_plays r (writing_of g.K.Sink c.args.sink end.sink) end.status c.end_at.ensures
