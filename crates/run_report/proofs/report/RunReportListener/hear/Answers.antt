use Rattle.std.proofs.Common.{◌∙◌, sym}
use Rattle.run_report.proofs.SpeaksLemmas.{speaks_not, speaks_on}
use Rattle.run_report.proofs.report.RunReportListener.hear.Goals as goal

pub returns-then-is_ok-clause-heard : goal.returns-then-is_ok-clause-heard
returns-then-is_ok-clause-heard g c told so_far =
    let old = c.args.self.now in
    let sink = c.say-self.new.sink in
    speaks_on old.settings (g.K.Sink.taken old.start.value) (g.K.Sink.taken old.sink) (g.K.Sink.taken sink)
    (g.K.Sink.faults old.start.value) (g.K.Sink.faults old.sink) (g.K.Sink.faults sink) old.went c.say-self.result
    old.heard c.say-self.new.heard c.args.event.now (sym c.is_ok.ensures.value ∙ c.if-is_ok.true)
    c.say-self.ensures.took c.say-self.ensures.fault c.say-self.ensures.heard told so_far

pub returns-else-is_ok-clause-heard : goal.returns-else-is_ok-clause-heard
returns-else-is_ok-clause-heard g c told so_far =
    let old = c.args.self.now in
    speaks_not old.settings (g.K.Sink.taken old.start.value) (g.K.Sink.taken old.sink)
    (g.K.Sink.faults old.start.value) (g.K.Sink.faults old.sink) old.went old.heard c.args.event.now
    (sym c.is_ok.ensures.value ∙ c.if-is_ok.false) told so_far
