use Rattle.std.proofs.Common.{◌∙◌, ap}
use Rattle.std.proofs.lemmas.Result.{IfOk-weaker}
use Rattle.run_audit_model.specs.Statuses.{compared}
use Rattle.run_laws_audit.proofs.StatusLemmas.{status_read}
use Rattle.run_audit.proofs.tests.known.Goals as goal

pub returns : goal.returns
returns c =
    IfOk-weaker c.of.result _ _ (λ known is. is ∙ ap compared (c.as_bytes.ensures ∙ c.in_ok-text.ensures)
    ∙ status_read c.args.status.now c.known_status.ensures) c.of.ensures
