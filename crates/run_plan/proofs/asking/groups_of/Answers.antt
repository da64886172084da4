use Rattle.std.proofs.Common.{◌≡◌}
use Rattle.run_plan.specs.Columns.{said_group}
use Rattle.run_plan.proofs.ColumnLemmas.{alone_more}
use Rattle.run_plan.proofs.asking.groups_of.Goals as goal

pub loop-place-preserved : goal.loop-place-preserved
loop-place-preserved c =
    let l = c.loop-place in
    alone_more (λ i group. group ≡ said_group c.args.profile.now c.args.says.now i) c.args.rows.now l.groups
    c.push.new.self l.place c.in_ok-group.group c.loop-place-test.true c.in_ok-push.ensures.ok c.in_ok-group.ensures
    l.invariant
