use Rattle.serde_json.specs.Find.{get}
use Rattle.serde_json.specs.View.{view}
use Rattle.run_audit_passes.proofs.KnownLemmas.{got_own, some_own}
use Rattle.run_audit_passes.proofs.known_status.push_at.Goals as goal

pub of-requires : goal.of-requires
of-requires c =
    let key = c.args.key.now in
    let value = view c.args.value.now in
    some_own (λ v. view v.now) c.get.result (get key value) c.get.ensures (got_own key value c.requires)
