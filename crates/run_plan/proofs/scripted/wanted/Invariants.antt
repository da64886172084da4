use Rattle.std.proofs.Common.{◌≡◌, filter, map, take}
use Rattle.std.specs.List.{list_any, zip}
use Rattle.run_profile.specs.declared.scripts.SetupScript.{SetupScript}
use Rattle.run_plan.specs.Rows.{asked_row}
use Rattle.run_plan.specs.Scripted.{wanted}
use Rattle.run_plan.proofs.scripted.wanted.Given as goal

abbrev pub invariant-loop-script : goal.invariant-loop-script
invariant-loop-script l =
    map (λ s. s.now) l.found.items
    ≡ wanted l.profile l.picks (zip (map asked_row l.rows) l.kept) (take l.script-index l.scripts)
