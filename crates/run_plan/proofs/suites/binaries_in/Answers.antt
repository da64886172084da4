use Rattle.serde_json.specs.View.{members_view, view}
use Rattle.run_plan.specs.TestList.{binaries_from, listed_binary}
use Rattle.run_plan.proofs.ListLemmas.{kept}
use Rattle.run_plan.proofs.suites.binaries_in.Goals as goal

pub loop-id-preserved : goal.loop-id-preserved
loop-id-preserved c =
    let id = c.in-Some.id.now.bytes.items in
    rw c.in_ok-push.ensures.ok
    (kept c.loop-id.binaries c.in_ok-named_binary.field-0 (listed_binary id (view c.in-Some.value.now))
    (binaries_from (members_view c.next.new.self)) (binaries_from (members_view c.args.members.now.entries))
    (rw c.as_str.ensures.value at c.in_ok-named_binary.ensures) (rw c.in-Some.ensures.steps at c.loop-id.invariant))
