use Rattle.std.proofs.Common.{◌≡◌, take}
use Rattle.run_plan.specs.Columns.{AtEach, asked_at}
use Rattle.run_plan.proofs.asking.all_asked.Given as goal

abbrev pub invariant-loop-place : goal.invariant-loop-place
invariant-loop-place l = AtEach (λ i row a. a ≡ asked_at l.filters l.says l.words i) (take l.place l.rows) l.all
