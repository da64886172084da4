use Rattle.std.proofs.Common.{◌∙◌, sym}
use Rattle.run_audit_passes.proofs.GroupLimitLemmas.{limits_added, limits_kept}
use Rattle.run_audit_passes.proofs.limit.add_limit.Goals as goal

pub returns-then-contains_key : goal.returns-then-contains_key
returns-then-contains_key c =
    limits_kept c.args.limits.now c.args.group.now (sym c.contains_key.ensures ∙ c.if-contains_key.true)

pub returns : goal.returns
returns c =
    limits_added c.args.limits.now c.insert.new.self c.in_ok-name.name c.args.group.now c.in_ok-name.ensures
    (sym c.contains_key.ensures ∙ c.if-contains_key.false) (λ q. c.in_ok-insert.ensures.updates.0 q)
