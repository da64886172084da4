use Rattle.std.proofs.Common.{IsUtf8, subst, sym}
use Rattle.std.specs.List.{All}
use Rattle.run_output.specs.Errors.{child_errors, error_text}
use Rattle.run_output.specs.Statuses.{stream_fields}
use Rattle.run_text_laws.specs.Objects.{ArePlainFields}
use Rattle.run_laws_audit.proofs.PlainLemmas.{child_errors_utf8, output_plain, start_error_plain}
use Rattle.run_laws_audit.proofs.known.known_output.Goals as goal

pub returns-in-Output-clause-streams : goal.returns-in-Output-clause-streams
returns-in-Output-clause-streams c =
    subst (λ output. ArePlainFields (stream_fields output)) (sym c.in-Output.is)
    (output_plain c.in-Output.output c.in-Output.errors)

pub returns-in-Output-clause-errors : goal.returns-in-Output-clause-errors
returns-in-Output-clause-errors c =
    subst (λ output. All IsUtf8 (child_errors output)) (sym c.in-Output.is)
    (child_errors_utf8 c.in-Output.errors
    (subst (All (λ error. IsUtf8 (error_text error))) c.as_slice.ensures c.known_errors.ensures))

pub returns-in-StartError-clause-streams : goal.returns-in-StartError-clause-streams
returns-in-StartError-clause-streams c =
    subst (λ output. ArePlainFields (stream_fields output)) (sym c.in-StartError.is)
    (start_error_plain c.in-StartError.error c.known_text.ensures)
