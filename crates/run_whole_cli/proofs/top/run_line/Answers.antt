use Rattle.run_cli.specs.Call.{writing_of}
use Rattle.run_cli.specs.Live.{is_unbegun}
use Rattle.run_whole_cli.specs.Relations.{relations}
use Rattle.run_whole_cli.specs.Ends.{whole_status}
use Rattle.run_whole_cli.proofs.AnswerLemmas.{accepted_end, fault_end, whole_begun}
use Rattle.run_whole_cli.proofs.HearsLemmas.{heard_none, heard_plan, turns_begun, turns_unbegun}
use Rattle.run_whole_cli.proofs.top.run_line.Goals as goal

pub returns-in-Ok-clause-says : goal.returns-in-Ok-clause-says
returns-in-Ok-clause-says g c =
    let end = c.run_runner in
    let k = relations g.H.Worker.Keeper.has_heard g.H.Tick.Ticker.has_told g.O.Outside.has_come
    g.S.Halter.has_halted in
    accepted_end k c.args.line.now (writing_of g.K.Sink c.args.sink end.result.0.sink) end.result.0.left
    end.result.0.ending c.in-Ok.runner c.in-Ok.ensures.ok end.ensures.says

pub returns-in-Ok-clause-unused : goal.returns-in-Ok-clause-unused
returns-in-Ok-clause-unused g c = λ unbegun.
    let end = c.run_runner in
    let k = relations g.H.Worker.Keeper.has_heard g.H.Tick.Ticker.has_told g.O.Outside.has_come
    g.S.Halter.has_halted in
    absurd (whole_begun k c.in-Ok.runner (writing_of g.K.Sink c.args.sink end.result.0.sink) end.result.0.left
    end.result.0.ending end.ensures.says unbegun)

pub returns-in-Ok-clause-heard : goal.returns-in-Ok-clause-heard
returns-in-Ok-clause-heard g c =
    let end = c.run_runner in
    heard_plan g.B.Listener.heard end.result.1 c.args.line.now c.in-Ok.runner end.result.0.left c.in-Ok.ensures.ok
    end.ensures.heard

pub returns-in-Err-clause-says : goal.returns-in-Err-clause-says
returns-in-Err-clause-says g c =
    let end = c.end_without_run in
    let k = relations g.H.Worker.Keeper.has_heard g.H.Tick.Ticker.has_told g.O.Outside.has_come
    g.S.Halter.has_halted in
    fault_end k c.args.line.now (writing_of g.K.Sink c.args.sink end.result.sink) end.result.left c.in-Err.fault
    end.result.ending c.in-Err.ensures.err end.ensures.ending end.ensures.left

pub returns-in-Err-clause-heard : goal.returns-in-Err-clause-heard
returns-in-Err-clause-heard g c =
    heard_none g.B.Listener.heard c.args.report c.args.line.now c.end_without_run.result.left
    c.end_without_run.ensures.left

pub returns-in-Ok-clause-turns : goal.returns-in-Ok-clause-turns
returns-in-Ok-clause-turns g c =
    let end = c.run_runner in
    let k = relations g.H.Worker.Keeper.has_heard g.H.Tick.Ticker.has_told g.O.Outside.has_come
    g.S.Halter.has_halted in
    turns_begun g.B.Listener.taken end.result.1 end.result.0.left (is_unbegun (whole_status end.result.0.ending))
    (whole_begun k c.in-Ok.runner (writing_of g.K.Sink c.args.sink end.result.0.sink) end.result.0.left
    end.result.0.ending end.ensures.says) end.ensures.turns

pub returns-in-Err-clause-turns : goal.returns-in-Err-clause-turns
returns-in-Err-clause-turns g c =
    let end = c.end_without_run in
    turns_unbegun g.B.Listener.taken c.args.report end.result.left (is_unbegun (whole_status end.result.ending))
    end.ensures.left c.requires.untaken
