use Rattle.std.proofs.Common.{◌≡◌, map, take, true}
use Rattle.run_plan.specs.Rows.{asked_row}
use Rattle.run_plan.proofs.kept.all_kept.Given as goal

abbrev pub invariant-loop-row : goal.invariant-loop-row
invariant-loop-row l = l.kept.items ≡ map (λ row. true) (map asked_row (take l.row-index l.rows))
