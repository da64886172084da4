use Rattle.std.proofs.Common.{◌≡◌, ◌∙◌, sym, arith}
use Rattle.run_rerun.specs.Outstanding.{has_id}
use Rattle.run_rerun.proofs.OutstandingLemmas.{has-among}
use Rattle.run_rerun.proofs.ShardLemmas.{count_no, count_yes}
use Rattle.run_rerun.proofs.seen.count_in.Goals as goal
use Rattle.run_rerun.proofs.seen.count_in.Goals.{then-contains, else-contains}

pub loop-id-preserved : goal.loop-id-preserved
loop-id-preserved c =
    let ids = c.args.ids.now in
    let set = c.args.set.now in
    let i = c.loop-id.id-index in
    let id = c.id-item.result in
    let before = c.loop-id.invariant in
    let has = sym (has-among set id) ∙ sym c.contains.ensures in
    elim c.if-contains.branch [
      | then-contains w ↦ record {
        counted = w.count-is ∙ count_yes (has_id set.keys) ids i id c.loop-id.count c.loop-id-test.true c.id-item.is
            (has ∙ w.if-contains.true) before.counted;
        within = omega (arith, w.count-is, before.within);
      }
      | else-contains w ↦ record {
        counted = w.count-is ∙ count_no (has_id set.keys) ids i id c.loop-id.count c.loop-id-test.true c.id-item.is
            (has ∙ w.if-contains.false) before.counted;
        within = omega (arith, w.count-is, before.within);
      }
    ]
