use Rattle.std.proofs.Common.{rules, ◌∙◌, refl, take, Some, None}
use Rattle.run_output.proofs.ShownLemmas.{shown_more}
use Rattle.run_output.proofs.progress_reporter.ProgressReporterReporter.report.Goals as goal

pub returns-in-Ok-write_all-clause-told : goal.returns-in-Ok-write_all-clause-told
returns-in-Ok-write_all-clause-told g c = λ xs told.
    let line = c.as_bytes.result.now in
    shown_more _ _ _ _ _ _ _ _ _ _ _ xs c.args.event.now None line line
    (λ w is. let heard = c.in-Ok.ensures.ok w is in (c.as_bytes.ensures ∙ heard.0, heard.1)) refl
    c.in-Ok-write_all.ensures.ok (search rules) (search rules) told

pub returns-clause-told : goal.returns-clause-told
returns-clause-told g c = λ xs told.
    let line = c.as_bytes.result.now in
    let front = c.in-Err.ensures.err in
    shown_more _ _ _ _ _ _ _ _ _ _ _ xs c.args.event.now (Some c.in-Err.failed) line (take front.0 line)
    (λ w is. let heard = c.in-Ok.ensures.ok w is in (c.as_bytes.ensures ∙ heard.0, heard.1)) (front.0, front.1, refl)
    front.2 (search rules) (search rules) told
