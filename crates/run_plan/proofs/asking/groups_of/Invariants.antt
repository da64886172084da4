use Rattle.std.proofs.Common.{◌≡◌, take}
use Rattle.run_plan.specs.Columns.{AtEach, said_group}
use Rattle.run_plan.proofs.asking.groups_of.Given as goal

abbrev pub invariant-loop-place : goal.invariant-loop-place
invariant-loop-place l = AtEach (λ i row group. group ≡ said_group l.profile l.says i) (take l.place l.rows) l.groups
