use Rattle.std.proofs.Common.{sym}
use Rattle.std.proofs.lemmas.Result.{IfOk-weaker}
use Rattle.run_audit_passes.specs.LimitTable.{told_seat}
use Rattle.run_audit_passes.proofs.TakenLemmas.{limit_there, no_limit, none_changed, of_no_plan, of_none}
use Rattle.run_audit_passes.proofs.taken.change_groups.Goals as goal

pub returns-in_default : goal.returns-in_default
returns-in_default c = λ all seats place limits takes own.
    none_changed all c.args.test.now c.args.groups.now (told_seat c.args.old.now) (told_seat c.args.new.now)
    (of_none all c.args.test.now c.in_default.is) seats place takes own

pub returns-in-Some-get : goal.returns-in-Some-get
returns-in-Some-get c = IfOk-weaker c.change_group.result _ _ (λ kept changes all seats place limits takes own.
    let group = limit_there all c.args.limits.now c.in-Some.name c.in-Some-get.limit.now limits
    (sym c.in-Some-get.ensures.value) in
    changes all group.0 seats place c.in-Some.is group.1 group.2 takes own) c.change_group.ensures

pub returns-in-None : goal.returns-in-None
returns-in-None c = λ all seats place limits takes own.
    none_changed all c.args.test.now c.args.groups.now (told_seat c.args.old.now) (told_seat c.args.new.now)
    (of_no_plan all c.args.test.now c.in-Some.name c.in-Some.is
    (no_limit all c.args.limits.now c.in-Some.name limits (sym c.in-None.ensures.value))) seats place takes own
