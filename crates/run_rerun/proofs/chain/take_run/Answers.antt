use Rattle.std.proofs.Common.{◌≡◌, ◌∙◌, ◌<◌, cond, not, ap, subst, length, get_or}
use Rattle.run_model.specs.Reruns.{is_one_test}
use Rattle.run_rerun.specs.Outstanding.{has_id}
use Rattle.run_rerun.proofs.OutstandingLemmas.{has-among, open_more}
use Rattle.run_rerun.proofs.chain.take_run.Goals as goal

pub loop-id-preserved : goal.loop-id-preserved
loop-id-preserved c = λ q.
    let run = c.args.run.now in
    let id = c.id-item.result in
    let old = c.loop-id.left in
    let new = c.set_open.new.left in
    let i = c.loop-id.id-index in
    let within : i < length run.has = subst (λ ids. i < length ids) c.as_slice-id-items.ensures c.loop-id-test.true in
    let is : id ≡ get_or run.has i id = subst (λ ids. id ≡ get_or ids i id) c.as_slice-id-items.ensures c.id-item.is in
    let passed : c.contains.result ≡ has_id run.passed id =
    c.contains.ensures ∙ has-among c.in_ok-passed.passed id ∙ c.in_ok-passed.ensures id
    ∙ ap (λ ids. has_id ids id) c.as_slice.ensures in
    open_more run.has run.passed (has_id c.args.left.now.keys q) i id q (has_id old.keys q) (has_id new.keys q)
    within is (c.loop-id.invariant q)
    (c.in_ok-set_open.ensures q ∙ ap (λ b. cond (is_one_test q id) (not b) (has_id old.keys q)) passed)
