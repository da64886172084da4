use Rattle.std.proofs.Common.{subst}
use Rattle.run_audit_model.specs.Kept.{KeepsLaw}
use Rattle.run_audit_machines.specs.Machines.{IsPlaceOf}
use Rattle.run_audit.proofs.auditing.audit.Goals as goal

pub audit_with-requires-clause-limit : goal.audit_with-requires-clause-limit
audit_with-requires-clause-limit c = λ past.
    subst (λ p. IsPlaceOf (KeepsLaw p past 3) c.args.events.now c.in-Ok.limit) c.settings.ensures.is
    (c.in-Ok.ensures.1 past)
