use Rattle.std.proofs.Common.{◌≡◌, map, take}
use Rattle.run_plan.specs.Planned.{candidate_of}
use Rattle.run_plan.specs.Rows.{asked_row, parting_view}
use Rattle.run_plan.proofs.kept.candidates_of.Given as goal

abbrev pub invariant-loop-row : goal.invariant-loop-row
invariant-loop-row l =
    map parting_view l.candidates.items
    ≡ map parting_view (map (candidate_of l.picks) (map asked_row (take l.row-index l.rows)))
