use Rattle.serde_json.specs.View.{view}
use Rattle.run_audit_passes.proofs.KnownLemmas.{value_own}
use Rattle.run_audit_passes.proofs.known_status.value_of.Goals as goal

pub returns-in-Ok-clause-own : goal.returns-in-Ok-clause-own
returns-in-Ok-clause-own c = value_own c.args.text.now (view c.in-Ok.value) c.in-Ok.ensures.ok
