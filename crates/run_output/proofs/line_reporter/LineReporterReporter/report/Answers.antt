use Rattle.std.proofs.Common.{rules, ◌≡◌, ◌<◌, ap, subst, sym, take, length, Some, None}
use Rattle.run_output.specs.Told.{HasTold, event_line, event_lines}
use Rattle.run_output.proofs.ToldLemmas.{told_more, event_lines-more}
use Rattle.run_output.proofs.line_reporter.LineReporterReporter.report.Goals as goal

pub returns-in-Ok-write_to-clause-told : goal.returns-in-Ok-write_to-clause-told
returns-in-Ok-write_to-clause-told g c = λ xs told.
    let line : c.in-Ok.line ≡ event_line c.args.event.now = c.in-Ok.ensures in
    subst (HasTold _ _ _ _ _) (sym (event_lines-more xs c.args.event.now None))
    (told_more _ _ _ _ _ _ _ _ (event_lines xs) (event_line c.args.event.now) None
    c.in-Ok.line line c.in-Ok-write_to.ensures.ok (search rules) (search rules) told)

pub returns-clause-told : goal.returns-clause-told
returns-clause-told g c = λ xs told.
    let line : c.in-Ok.line ≡ event_line c.args.event.now = c.in-Ok.ensures in
    let front = c.in-Err.ensures.err in
    subst (HasTold _ _ _ _ _) (sym (event_lines-more xs c.args.event.now (Some c.in-Err.failed)))
    (told_more _ _ _ _ _ _ _ _ (event_lines xs) (event_line c.args.event.now)
    (Some c.in-Err.failed) (take front.0 c.in-Ok.line)
    (front.0, subst (λ l. front.0 < length l) line front.1, ap (take front.0) line) front.2
    (search rules) (search rules) told)
