use Rattle.std.proofs.Common.{◌∙◌, arith}
use Rattle.run_plan.specs.Rows.{listed_row}
use Rattle.run_plan.proofs.RowLemmas.{all_pairs, next_row}
use Rattle.run_plan.proofs.rows.asked_rows.Goals as goal

pub loop-place-preserved : goal.loop-place-preserved
loop-place-preserved c =
    next_row c.loop-place.both.items c.push.new.self.items _ c.args.rows.now c.args.asked.now c.loop-place.place
    c.in_ok-push.ensures.items (omega arith) (omega arith) c.index-rows-place.is c.index-asked-place.is
    c.loop-place.invariant

pub returns : goal.returns
returns c =
    c.loop-place.invariant
    ∙ all_pairs listed_row c.args.rows.now c.args.asked.now c.loop-place.place (omega arith)
