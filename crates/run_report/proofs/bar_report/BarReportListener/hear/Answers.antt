use Rattle.std.proofs.Common.{sym, ◌∙◌}
use Rattle.run_report.proofs.BarLemmas.{if_some_is}
use Rattle.run_report.proofs.bar_report.BarReportListener.hear.Goals as goal

pub returns-in-Some-clause-drawn : goal.returns-in-Some-clause-drawn
returns-in-Some-clause-drawn g c = λ tick some.
    if_some_is c.args.self.now.bar c.in-Some.bar _ (sym c.take.ensures.value ∙ c.in-Some.is)
    (c.hear.new.self, c.hear.ensures.heard, c.after.ensures.drawn tick some)
