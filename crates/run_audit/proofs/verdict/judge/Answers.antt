use Rattle.std.proofs.Common.{subst}
use Rattle.run_audit.specs.Stops.{StopsByLaw}
use Rattle.run_audit.proofs.JudgeLemmas.{all_kept, fifth_no, fourth_no, third_no}
use Rattle.run_audit.proofs.verdict.judge.Goals as goal

pub returns-in-Some-limit : goal.returns-in-Some-limit
returns-in-Some-limit c =
    let a = c.args in
    third_no a.needs.now a.limit a.told.now a.events.now c.in-Some-limit.place
    (subst (StopsByLaw 1 a.needs.now a.told.now a.events.now) c.in_default.is c.in_ok-place.ensures)
    (subst (StopsByLaw 2 a.needs.now a.told.now a.events.now) c.in_default-2.is c.in_ok-place-2.ensures)
    c.in-Some-limit.is

pub returns-in-Some-3 : goal.returns-in-Some-3
returns-in-Some-3 c =
    let a = c.args in
    fourth_no a.needs.now a.limit a.told.now a.events.now c.in-Some-3.place
    (subst (StopsByLaw 1 a.needs.now a.told.now a.events.now) c.in_default.is c.in_ok-place.ensures)
    (subst (StopsByLaw 2 a.needs.now a.told.now a.events.now) c.in_default-2.is c.in_ok-place-2.ensures)
    c.in_default-limit.is
    (subst (StopsByLaw 4 a.needs.now a.told.now a.events.now) c.in-Some-3.is c.in_ok-place-3.ensures)

pub returns-in-Some-4 : goal.returns-in-Some-4
returns-in-Some-4 c =
    let a = c.args in
    fifth_no a.needs.now a.limit a.told.now a.events.now c.in-Some-4.place
    (subst (StopsByLaw 1 a.needs.now a.told.now a.events.now) c.in_default.is c.in_ok-place.ensures)
    (subst (StopsByLaw 2 a.needs.now a.told.now a.events.now) c.in_default-2.is c.in_ok-place-2.ensures)
    c.in_default-limit.is
    (subst (StopsByLaw 4 a.needs.now a.told.now a.events.now) c.in_default-3.is c.in_ok-place-3.ensures)
    (subst (StopsByLaw 5 a.needs.now a.told.now a.events.now) c.in-Some-4.is c.in_ok-place-4.ensures)

pub returns : goal.returns
returns c =
    let a = c.args in
    all_kept a.needs.now a.limit a.told.now a.events.now
    (subst (StopsByLaw 1 a.needs.now a.told.now a.events.now) c.in_default.is c.in_ok-place.ensures)
    (subst (StopsByLaw 2 a.needs.now a.told.now a.events.now) c.in_default-2.is c.in_ok-place-2.ensures)
    c.in_default-limit.is
    (subst (StopsByLaw 4 a.needs.now a.told.now a.events.now) c.in_default-3.is c.in_ok-place-3.ensures)
    (subst (StopsByLaw 5 a.needs.now a.told.now a.events.now) c.in_default-4.is c.in_ok-place-4.ensures)
