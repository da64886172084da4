use Rattle.std.proofs.Common.{length, refl, subst}
use Rattle.run_output.specs.Asks.{ask_lines}
use Rattle.run_cli.specs.Call.{Writing, writing_of}
use Rattle.run_whole_cli.specs.Relations.{relations}
use Rattle.run_whole_cli.specs.Last.{EndsWhole}
use Rattle.run_whole_cli.proofs.EndLemmas.{whole_ends}
use Rattle.run_whole_cli.proofs.HearsLemmas.{heard_whole, turns_whole}
use Rattle.run_whole_cli.proofs.running.finish.Goals as goal

pub returns-clause-says : goal.returns-clause-says
returns-clause-says g c = λ p x.
    let all = c.args.whole in
    let end = c.write_end-ending in
    let refused = c.has_refused-refused.result in
    let k = relations g.W.Keeper.has_heard g.T.Ticker.has_told g.O.Outside.has_come g.S.Halter.has_halted in
    let w : Writing = record {
      taken = g.G.Origin.taken_before;
      taken_after = g.K.Sink.taken c.into_sink-sink.result;
      faults = g.G.Origin.faults_before;
      faults_after = g.K.Sink.faults c.into_sink-sink.result;
    } in
    let v = writing_of g.K.Sink c.into_sink-sink.result end.result.1 in
    let wrote = subst (λ asks. EndsWhole v (ask_lines asks) all.error (length all.run.journal) all.run.outcome refused
    end.result.0) c.asks-told.ensures end.ensures in
    rw c.left_by.ensures
    (whole_ends k _ p w v all.run.report.lines.lines.refusals all refused end.result.0 refl refl
    (λ ys told. (rw c.into_parts-lines.ensures.lines at c.into_sink-sink.ensures.told) ys told.lines_told)
    (λ ys told. (rw c.into_parts-lines.ensures.lines at c.has_refused-refused.ensures) ys told.lines_told) x wrote)

pub returns-clause-heard : goal.returns-clause-heard
returns-clause-heard g c = λ p x.
    let all = c.args.whole in
    let k = relations g.W.Keeper.has_heard g.T.Ticker.has_told g.O.Outside.has_come g.S.Halter.has_halted in
    rw c.left_by.ensures (rw c.into_parts-lines.ensures.report
    (heard_whole k _ g.B.Listener.heard all.run.report.report p all c.write_end-ending.result.0
    (λ ys told. told.report_heard) x))

pub returns-clause-turns : goal.returns-clause-turns
returns-clause-turns g c = λ p x.
    let all = c.args.whole in
    let k = relations g.W.Keeper.has_heard g.T.Ticker.has_told g.O.Outside.has_come g.S.Halter.has_halted in
    rw c.left_by.ensures (rw c.into_parts-lines.ensures.report
    (turns_whole k _ g.B.Listener.taken all.run.report.report p all c.write_end-ending.result.0 c.requires.turns.1 x))
