use Rattle.std.proofs.Common.{refl, sym, subst}
use Rattle.run_cli.specs.Call.{Writing, then_writing, writing_of}
use Rattle.run_cli.proofs.GivenUpLemmas.{given_up}
use Rattle.run_whole_cli.specs.Relations.{relations}
use Rattle.run_whole_cli.specs.Ends.{IsWholeRunEnd}
use Rattle.run_whole_cli.proofs.HearsLemmas.{heard_cut, turns_cut, turns_given_up}
use Rattle.run_whole_cli.proofs.ThirdLemmas.{third_ends}
use Rattle.run_whole_cli.proofs.running.finish_given_up.Goals as goal

pub returns-in-Some-clause-says : goal.returns-in-Some-clause-says
returns-in-Some-clause-says g c = λ p left.
    let end = c.end_cut_off in
    let report = c.args.given_up.report in
    let k = relations g.W.Keeper.has_heard g.T.Ticker.has_told g.O.Outside.has_come g.S.Halter.has_halted in
    let w : Writing = record {
      taken = g.G.Origin.taken_before;
      taken_after = g.K.Sink.taken c.into_sink-sink.result;
      faults = g.G.Origin.faults_before;
      faults_after = g.K.Sink.faults c.into_sink-sink.result;
    } in
    let v = writing_of g.K.Sink c.into_sink-sink.result end.result.sink in
    rw end.ensures.left
    (third_ends k _ p w v report.lines.lines.refusals report c.in-Some.cut_off end.result.ending refl refl
    (λ ys told. (rw c.into_parts-lines.ensures.lines at c.into_sink-sink.ensures.told) ys told.lines_told)
    (rw c.in-Some.is at left) (rw c.in-Some.is at c.requires.third) end.ensures.ending)

pub returns-in-None-clause-says : goal.returns-in-None-clause-says
returns-in-None-clause-says g c = λ p left.
    let end = c.end_given_up in
    let report = c.args.given_up.report in
    let k = relations g.W.Keeper.has_heard g.T.Ticker.has_told g.O.Outside.has_come g.S.Halter.has_halted in
    let w : Writing = record {
      taken = g.G.Origin.taken_before;
      taken_after = g.K.Sink.taken c.into_sink-sink.result;
      faults = g.G.Origin.faults_before;
      faults_after = g.K.Sink.faults c.into_sink-sink.result;
    } in
    let v = writing_of g.K.Sink c.into_sink-sink.result end.result.sink in
    let short = given_up _ report w v report.lines.lines.refusals end.ensures.said.0 refl refl
    (λ ys told. (rw c.into_parts-lines.ensures.lines at c.into_sink-sink.ensures.told) ys told.lines_told)
    c.requires.told end.ensures.said.1 in
    subst (λ e. IsWholeRunEnd k p (then_writing w v) end.result.left e) (sym end.ensures.ending)
    (end.ensures.left, short)

pub returns-in-Some-clause-heard : goal.returns-in-Some-clause-heard
returns-in-Some-clause-heard g c = λ p left.
    let end = c.end_cut_off in
    let both = c.args.given_up.report in
    rw c.into_parts-lines.ensures.report
    (heard_cut _ g.B.Listener.heard both both.report p c.in-Some.cut_off end.result.ending end.result.left
    end.ensures.left (λ ys told. told.report_heard) (rw c.in-Some.is at left))

pub returns-in-None-clause-heard : goal.returns-in-None-clause-heard
returns-in-None-clause-heard g c = λ p left. rw c.end_given_up.ensures.left tt

pub returns-in-Some-clause-turns : goal.returns-in-Some-clause-turns
returns-in-Some-clause-turns g c = λ p left.
    let end = c.end_cut_off in
    let both = c.args.given_up.report in
    let some = c.requires.some_turns in
    rw c.into_parts-lines.ensures.report
    (turns_cut _ g.B.Listener.taken both both.report p c.in-Some.cut_off end.result.ending end.result.left
    end.ensures.left (rw c.in-Some.is at c.requires.turns).1
    (record { settings = some.settings; journal = some.journal; legal = some.legal; turns = some.turns.1 })
    (rw c.in-Some.is at left))

pub returns-in-None-clause-turns : goal.returns-in-None-clause-turns
returns-in-None-clause-turns g c = λ p left.
    let some = c.requires.some_turns in
    rw c.into_parts-lines.ensures.report
    (turns_given_up g.B.Listener.taken c.args.given_up.report.report c.end_given_up.result.left
    c.end_given_up.ensures.left
    (record { settings = some.settings; journal = some.journal; legal = some.legal; turns = some.turns.1 }))
