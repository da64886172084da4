use Rattle.std.proofs.Common.{◌∙◌, ap}
use Rattle.run_audit_model.specs.SeenScripts.{ended}
use Rattle.run_audit_model.specs.Statuses.{compared}
use Rattle.run_laws_audit.proofs.StatusLemmas.{script_read}
use Rattle.run_audit.proofs.scripts.ended.Goals as goal

pub returns : goal.returns
returns c =
    ap (ended c.args.index) (c.in_ok-status.ensures ∙ ap compared (c.as_bytes.ensures ∙ c.in_ok-text.ensures)
    ∙ script_read c.args.status.now c.known_script_status.ensures)
