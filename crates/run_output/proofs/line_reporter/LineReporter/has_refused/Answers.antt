use Rattle.std.proofs.Common.{subst}
use Rattle.run_capture.specs.Faults.{RoseExactlyIf}
use Rattle.run_output.specs.Told.{some_refused}
use Rattle.run_output.proofs.ToldLemmas.{some_refused-lines, above_where}
use Rattle.run_output.proofs.line_reporter.LineReporter.has_refused.Goals as goal

pub returns : goal.returns
returns g c = λ answers told.
    let count = c.args.self.now.refusals in
    above_where (some_refused answers) count
    (subst (λ b. RoseExactlyIf b 0 count) (some_refused-lines answers) told.own)
