use Rattle.std.proofs.Common.{◌≡◌, drop, map}
use lib.Pointwise.{pointwise}
use Rattle.run_audit_model.specs.Statuses.{compared}
use Rattle.run_audit_passes.proofs.test_news.are_told_by.Given as goal

abbrev pub invariant-loop-place : goal.invariant-loop-place
invariant-loop-place g l = pointwise g.S.DueStatus.same (map g.S.DueStatus.status (drop l.place l.due))
    (map compared (drop l.place l.texts))
    ≡ pointwise g.S.DueStatus.same (map g.S.DueStatus.status l.due) (map compared l.texts)
