use Rattle.std.proofs.Common.{◌<◌, arith, length, map, refl}
use Rattle.run_plan.specs.Planned.{planned}
use Rattle.run_plan.specs.Rows.{asked_row}
use Rattle.run_plan.proofs.CallLemmas.{too_many}
use Rattle.run_plan.proofs.ScriptLemmas.{length_seen}
use Rattle.run_plan.proofs.calls.plan_where.Goals as goal

pub returns-then-len-gt-MOST-clause-err : goal.returns-then-len-gt-MOST-clause-err
returns-then-len-gt-MOST-clause-err c =
    let list = c.args.list.now in
    let project = c.args.project.now in
    let choices = c.args.given.0.now in
    let call = c.args.given.1.now in
    let rows = map asked_row c.args.rows.now in
    let used = map (λ s. s.now) c.in_ok-used.used.items in
    let many : 4294967295 < length used = length_seen c.in_ok-used.used.items 4294967295 (omega arith) in (
      planned list project choices call rows used,
      record { used = used; are_used = c.in_ok-used.ensures.ok; is = refl },
      too_many list project choices call rows used many,
    )
