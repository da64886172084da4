use Rattle.std.proofs.Common.{◌∙◌, ap, sym, subst}
use Rattle.run_cli.specs.Call.{writing_of}
use Rattle.run_cli.specs.Live.{is_unbegun}
use Rattle.run_whole_cli.specs.Relations.{relations}
use Rattle.run_whole_cli.specs.Answers.{AnswersWhole}
use Rattle.run_whole_cli.specs.Hears.{HasHeardTurns}
use Rattle.run_whole_cli.proofs.AnswerLemmas.{answers_whole}
use Rattle.run_whole_cli.proofs.top.run_plan.Goals as goal

pub returns-clause-says : goal.returns-clause-says
returns-clause-says g c =
    let end = c.run_line-ended in
    let k = relations g.H.Worker.Keeper.has_heard g.H.Tick.Ticker.has_told g.O.Outside.has_come
    g.S.Halter.has_halted in
    let w = writing_of g.K.Sink c.args.sink end.result.0.sink in
    subst (AnswersWhole k c.args.line.now w end.result.0.left) (sym c.status.ensures)
    (answers_whole k c.args.line.now w end.result.0.left end.result.0.ending end.ensures.says)

pub returns-clause-unused : goal.returns-clause-unused
returns-clause-unused g c = λ unbegun.
    c.run_line-ended.ensures.unused (ap is_unbegun (sym c.status.ensures) ∙ unbegun)

pub returns-clause-turns : goal.returns-clause-turns
returns-clause-turns g c =
    let end = c.run_line-ended in
    subst (λ status. HasHeardTurns g.B.Listener.taken end.result.1 end.result.0.left (is_unbegun status))
    (sym c.status.ensures) end.ensures.turns
