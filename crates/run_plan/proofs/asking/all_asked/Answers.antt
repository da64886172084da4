use Rattle.std.proofs.Common.{◌≡◌}
use Rattle.run_plan.specs.Columns.{asked_at}
use Rattle.run_plan.proofs.ColumnLemmas.{alone_more}
use Rattle.run_plan.proofs.asking.all_asked.Goals as goal

pub loop-place-preserved : goal.loop-place-preserved
loop-place-preserved c =
    let l = c.loop-place in
    alone_more (λ i asked. asked ≡ asked_at c.args.filters.now c.args.says.now c.args.words.now i) c.args.rows.now l.all
    c.push.new.self l.place c.in_ok-asked.asked c.loop-place-test.true c.in_ok-push.ensures.ok c.in_ok-asked.ensures
    l.invariant
