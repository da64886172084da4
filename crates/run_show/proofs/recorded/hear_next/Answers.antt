-- Where reading goes.
use Rattle.std.proofs.Common.{ℕ, List, subst}
use Rattle.run_show.specs.Shown.{HearsLine}
use Rattle.run_show.proofs.ShownLemmas.{ends_unread, goes_line, heard_no_failure, unread_rose}
use Rattle.run_show.proofs.recorded.hear_next.Goals as goal

pub returns-in-Ok-Some-clause-goes : goal.returns-in-Ok-Some-clause-goes
returns-in-Ok-Some-clause-goes g c =
    let first = rw c.in-Ok-Some.field-0-is at c.in-Ok-Some.ensures.line in
    let goes = subst
    (λ (line : List ℕ). HearsLine c.args.number c.args.failed line c.hear_line.ensures.told.0 c.hear_line.result)
    c.as_slice.ensures.value c.hear_line.ensures.told.2 in
    λ left read. goes_line left _ _ _ _ c.args.failed c.args.number c.in-Ok-Some.line.items c.hear_line.ensures.told.0
    c.hear_line.result read first c.hear_line.ensures.told.1 goes

pub returns-in-Ok-Some-clause-fault : goal.returns-in-Ok-Some-clause-fault
returns-in-Ok-Some-clause-fault g c =
    let heard = subst
    (λ (line : List ℕ). HearsLine c.args.number c.args.failed line c.hear_line.ensures.told.0 c.hear_line.result)
    c.as_slice.ensures.value c.hear_line.ensures.told.2 in
    rw (heard_no_failure c.args.number c.args.failed c.in-Ok-Some.line.items c.hear_line.ensures.told.0
    c.hear_line.result heard) c.in-Ok-Some.ensures.fault

pub returns-in-Err-clause-goes : goal.returns-in-Err-clause-goes
returns-in-Err-clause-goes g c =
    λ left read. rw c.unread_fault.ensures (ends_unread left _ _ _ _ c.in-Err.error c.in-Err.ensures.refused read)

pub returns-in-Err-clause-fault : goal.returns-in-Err-clause-fault
returns-in-Err-clause-fault g c = rw c.unread_fault.ensures (unread_rose c.in-Err.error _ _ c.in-Err.ensures.fault)
